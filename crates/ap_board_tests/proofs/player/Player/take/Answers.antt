use Rattle.std.proofs.Common.{ap, ℕ}
use Rattle.ap_board.specs.declared.view.Kind.TheVariants.{Take}
use Rattle.ap_board.proofs.Keeps.{role_logged}
use Rattle.ap_board_tests.specs.declared.spot.Spot.TheVariants.{Has}
use Rattle.ap_board_tests.proofs.Remembered.{written, looked}
use Rattle.ap_board_tests.proofs.player.Player.take.Goals as goal

pub invariant_of-self : goal.invariant_of-self
invariant_of-self c = let s = c.self.inside in let v = s.seat.1 in let spots = s.spots.items in let p : ℕ = c.args.ticket.pad in let q : ℕ = c.args.ticket.round in let k = c.self.invariant in
    written spots v c.take.new.seat.1 p q (Take c.in-Some.parcel) (Has q) _ _ k c.in-Some.ensures.told.1 (ap (λ z. z.slots) c.take.ensures.table) (_, _, role_logged v p q (Take c.in-Some.parcel))

pub invariant_of-self-in-None : goal.invariant_of-self-in-None
invariant_of-self-in-None c = let s = c.self.inside in let v = s.seat.1 in let spots = s.spots.items in let p : ℕ = c.args.ticket.pad in let q : ℕ = c.args.ticket.round in let k = c.self.invariant in
    let t = c.in-None.ensures.told in looked spots v c.take.new.seat.1 p t.0 _ _ k t.2 c.take.ensures.rises (ap (λ z. z.slots) c.take.ensures.table)
