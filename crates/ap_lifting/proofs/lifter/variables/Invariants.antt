use Rattle.std.proofs.Common.{◌≡◌}
use Rattle.ap_term.specs.Search.{variables}
use Rattle.ap_lifting.proofs.lifter.variables.Given as goal

abbrev pub invariant-loop-x : goal.invariant-loop-x
invariant-loop-x l = l.list ≡ variables l.x
