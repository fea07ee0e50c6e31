use Rattle.std.proofs.Common.{◌≡◌}
use Rattle.ap_spec.specs.Elimination.{eliminated}
use Rattle.ap_spec.proofs.Eliminations.{behind}
use Rattle.ap_spec.proofs.unification.eliminated.Given as goal

abbrev pub invariant-loop-first : goal.invariant-loop-first
invariant-loop-first l = behind l.bound (eliminated l.left l.open) ≡ eliminated l.n l.initial.open

abbrev pub decreases-loop-first : goal.decreases-loop-first
decreases-loop-first l = l.left
