use Rattle.std.proofs.Common.{rules, sym, ap, subst, ◌≡◌, ℕ, IsTrue}
use Rattle.ap_board_tests.specs.Spots.{AreSpots}
use Rattle.ap_board_tests.proofs.Remembered.{stop_either}
use Rattle.ap_board_tests.proofs.player.Player.stop.Goals as goal

pub stop-running-requires-clause-offered : goal.stop-running-requires-clause-offered
stop-running-requires-clause-offered c = let yes : IsTrue c.is_gone.result = search rules in let same : c.deref.result.now ≡ c.self.inside.spots.items = search rules in (c.is_gone.ensures yes c.self.inside.seat.1 (subst (λ l. AreSpots l c.self.inside.seat.1) (sym same) c.self.invariant.0)).1

pub invariant_of-self : goal.invariant_of-self
invariant_of-self c = let s = c.self.inside in let v = s.seat.1 in let spots = s.spots.items in let p : ℕ = c.args.ticket.pad in let q : ℕ = c.args.ticket.round in let k = c.self.invariant in
    let yes : IsTrue c.is_gone.result = search rules in let same : c.deref.result.now ≡ spots = search rules in let is = (c.is_gone.ensures yes v (subst (λ l. AreSpots l v) (sym same) k.0)).1 in
    stop_either c.stop-running.result spots v c.stop-running.new.seat.1 p q _ _ is.0 k is.1 (ap (λ z. z.slots) c.stop-running.ensures.table) c.stop-running.ensures.told
