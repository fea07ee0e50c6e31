use Rattle.std.proofs.Common.{take}
use Rattle.ap_reach.specs.Index.{AreOpen}
use Rattle.ap_reach.proofs.predicates.open_of.Given as goal

abbrev pub invariant-loop-clause : goal.invariant-loop-clause
invariant-loop-clause l = AreOpen l.found (take l.clause-index l.clauses)
