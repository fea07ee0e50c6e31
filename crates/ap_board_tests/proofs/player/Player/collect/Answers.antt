use Rattle.std.proofs.Common.{sym, ap, subst, ◌∙◌, ◌≡◌, ◌≤◌, ℕ}
use Rattle.ap_board.specs.declared.view.Kind.TheVariants.{Collect}
use Rattle.ap_board.specs.Rule.{last_seen}
use Rattle.ap_board.proofs.Keeps.{last_noting}
use Rattle.ap_board_tests.specs.declared.spot.Spot.TheVariants.{Nothing}
use Rattle.ap_board_tests.proofs.Remembered.{written, looked}
use Rattle.ap_board_tests.proofs.player.Player.collect.Goals as goal

pub invariant_of-self : goal.invariant_of-self
invariant_of-self c = let s = c.self.inside in let v = s.seat.1 in let spots = s.spots.items in let p : ℕ = c.args.ticket.pad in let q : ℕ = c.args.ticket.round in let k = c.self.invariant in
    let t = c.in-Some.ensures.told in written spots v c.collect.new.seat.1 p q (Collect c.in-Some.outcome) Nothing _ _ k t.3 (ap (λ z. z.slots) c.collect.ensures.table) tt

pub invariant_of-self-in-None : goal.invariant_of-self-in-None
invariant_of-self-in-None c = let s = c.self.inside in let v = s.seat.1 in let spots = s.spots.items in let p : ℕ = c.args.ticket.pad in let q : ℕ = c.args.ticket.round in let k = c.self.invariant in
    let t = c.in-None.ensures.told in let last : last_seen c.collect.new.seat.1 p ≡ t.0 = ap (λ u. last_seen u p) t.4 ∙ last_noting v p t.0 in
    looked spots v c.collect.new.seat.1 p t.0 _ _ k t.4 (subst (λ (n : ℕ). last_seen v p ≤ n) (sym last) t.1) (ap (λ z. z.slots) c.collect.ensures.table)
