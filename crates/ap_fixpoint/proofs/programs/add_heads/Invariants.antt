use Rattle.std.proofs.Common.{◌≡◌, ◌++◌, drop}
use Rattle.ap_patterns.specs.Given.{given_by_heads}
use Rattle.ap_fixpoint.proofs.programs.add_heads.Given as goal

abbrev pub invariant-loop-clause : goal.invariant-loop-clause
invariant-loop-clause l = l.given.items ++ given_by_heads (drop l.clause-index l.clauses) ≡ l.initial.given.items ++ given_by_heads l.clauses
