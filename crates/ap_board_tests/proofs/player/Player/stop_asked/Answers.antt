use Rattle.std.proofs.Common.{ap, ℕ}
use Rattle.ap_board_tests.proofs.Remembered.{looked}
use Rattle.ap_board_tests.proofs.player.Player.stop_asked.Goals as goal

pub invariant_of-self : goal.invariant_of-self
invariant_of-self c = let s = c.self.inside in let v = s.seat.1 in let spots = s.spots.items in let p : ℕ = c.args.ticket.pad in let q : ℕ = c.args.ticket.round in let k = c.self.invariant in
    let t = c.stop_asked.ensures.told in looked spots v c.stop_asked.new.seat.1 p t.0 _ _ k t.2 t.1 (ap (λ z. z.slots) c.stop_asked.ensures.table)
