use Rattle.std.proofs.Common.{◌≡◌}
use Rattle.ap_patterns.specs.Entering.{own_sets}
use Rattle.ap_patterns.proofs.clauses.own_sets.Given as goal

abbrev pub invariant-loop-x : goal.invariant-loop-x
invariant-loop-x l = l.sets.items ≡ own_sets l.x
