use Rattle.std.proofs.Common.{◌≡◌, ◌++◌, take}
use Rattle.ap_codegen.proofs.asking.add_clauses.Given as goal

abbrev pub invariant-loop-clause : goal.invariant-loop-clause
invariant-loop-clause l = l.out ≡ l.fn.out ++ take l.clause-index l.clauses
