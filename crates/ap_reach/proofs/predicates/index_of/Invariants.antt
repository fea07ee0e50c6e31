use Rattle.std.proofs.Common.{take}
use Rattle.ap_reach.specs.Index.{Indexes}
use Rattle.ap_reach.proofs.predicates.index_of.Given as goal

abbrev pub invariant-loop-clause : goal.invariant-loop-clause
invariant-loop-clause l = Indexes l.index (take l.clause-index l.clauses)
