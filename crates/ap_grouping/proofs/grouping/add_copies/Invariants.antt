use Rattle.std.proofs.Common.{◌≡◌, ◌++◌, take}
use Rattle.ap_grouping.proofs.grouping.add_copies.Given as goal

abbrev pub invariant-loop-clause : goal.invariant-loop-clause
invariant-loop-clause l = l.out ≡ l.initial.out ++ take l.clause-index l.clauses
