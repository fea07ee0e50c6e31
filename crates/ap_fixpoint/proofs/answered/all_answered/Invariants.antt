use Rattle.std.proofs.Common.{◌≡◌, drop}
use Rattle.ap_patterns.specs.Given.{patterns}
use Rattle.ap_fixpoint.specs.Answered.{all_answered}
use Rattle.ap_fixpoint.proofs.answered.all_answered.Given as goal

abbrev pub invariant-loop-clause : goal.invariant-loop-clause
invariant-loop-clause l = all_answered (patterns l.table) (drop l.clause-index l.clauses) ≡ all_answered (patterns l.table) l.clauses
