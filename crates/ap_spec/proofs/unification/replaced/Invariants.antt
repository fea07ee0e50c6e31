use Rattle.std.proofs.Common.{◌≡◌, Some, length}
use Rattle.ap_term.specs.Unification.{replaced_by, both}
use Rattle.ap_spec.specs.Pairs.{bound_by}
use Rattle.ap_spec.proofs.unification.replaced.Given as goal

abbrev pub invariant-loop-equation : goal.invariant-loop-equation
invariant-loop-equation l = both (Some l.next) (replaced_by (bound_by l.one) l.equations) ≡ replaced_by (bound_by l.one) l.initial.equations

abbrev pub decreases-loop-equation : goal.decreases-loop-equation
decreases-loop-equation l = length l.equations
