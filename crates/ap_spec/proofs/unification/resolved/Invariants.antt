use Rattle.std.proofs.Common.{◌≡◌, [], length}
use Rattle.ap_spec.specs.Elimination.{resolved}
use Rattle.ap_spec.proofs.unification.resolved.Given as goal

abbrev pub invariant-loop-last : goal.invariant-loop-last
invariant-loop-last l = resolved l.bound l.solution ≡ resolved l.fn.equations []

abbrev pub decreases-loop-last : goal.decreases-loop-last
decreases-loop-last l = length l.bound
