use Rattle.std.proofs.Common.{◌≡◌, ◌&&◌, drop}
use Rattle.std.specs.List.{list_any}
use Rattle.ap_sharing.specs.VarSet.{has}
use Rattle.ap_sharing.proofs.sets.Sets.any_with_both.Given as goal

abbrev pub invariant-loop-s : goal.invariant-loop-s
invariant-loop-s l = list_any (λ s. has s l.x && has s l.y) (drop l.s-index l.s-items) ≡ list_any (λ s. has s l.x && has s l.y) l.self
