use Rattle.std.proofs.Common.{◌≡◌}
use Rattle.ap_patterns.specs.Entering.{own}
use Rattle.ap_patterns.proofs.clauses.own.Given as goal

abbrev pub invariant-loop-x : goal.invariant-loop-x
invariant-loop-x l = l.vars ≡ own l.x
