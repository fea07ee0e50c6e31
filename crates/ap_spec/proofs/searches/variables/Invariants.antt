use Rattle.std.proofs.Common.{◌≡◌}
use Rattle.ap_term.specs.Search.{variables}
use Rattle.ap_spec.proofs.searches.variables.Given as goal

abbrev pub invariant-loop-x : goal.invariant-loop-x
invariant-loop-x l = l.found ≡ variables l.x
