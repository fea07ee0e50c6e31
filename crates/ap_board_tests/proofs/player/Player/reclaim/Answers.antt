use Rattle.std.proofs.Common.{rules, sym, ap, subst, ◌≡◌, ◌/◌, ℕ, IsTrue}
use Rattle.ap_board.specs.declared.view.Kind.TheVariants.{Reclaim, Look}
use Rattle.ap_board_tests.specs.declared.spot.Spot.TheVariants.{Nothing, Gone}
use Rattle.ap_board_tests.specs.Spots.{AreSpots}
use Rattle.ap_board_tests.proofs.Remembered.{written, still_gone}
use Rattle.ap_board_tests.proofs.player.Player.reclaim.Goals as goal

pub invariant_of-self : goal.invariant_of-self
invariant_of-self c = let s = c.self.inside in let v = s.seat.1 in let spots = s.spots.items in let p : ℕ = c.args.ticket.pad in let q : ℕ = c.args.ticket.round in let k = c.self.invariant in
    written spots v c.reclaim.new.seat.1 p q Reclaim Nothing _ _ k c.in-Some.ensures.told.1 (ap (λ z. z.slots) c.reclaim.ensures.table) tt

pub invariant_of-self-in-None : goal.invariant_of-self-in-None
invariant_of-self-in-None c = let s = c.self.inside in let v = s.seat.1 in let spots = s.spots.items in let p : ℕ = c.args.ticket.pad in let q : ℕ = c.args.ticket.round in let k = c.self.invariant in
    let t = c.in-None.ensures.told in let yes : IsTrue c.is_sent.result = search rules in let same : c.deref.result.now ≡ spots = search rules in let is = c.is_sent.ensures yes v (subst (λ l. AreSpots l v) (sym same) k.0) in
    written spots v c.reclaim.new.seat.1 p (t.0 / 8) (Look t.0) (Gone q) _ _ k t.3 (ap (λ z. z.slots) c.reclaim.ensures.table) (still_gone v p q t.0 is.0 is.1 t.1)
