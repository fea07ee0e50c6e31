use Rattle.std.proofs.Common.{◌≡◌, ◌++◌}
use Rattle.ap_udg.proofs.programs.program_of.Given as goal

abbrev pub invariant-loop-clause : goal.invariant-loop-clause
invariant-loop-clause l = record {
  taken : l.program ≡ l.yielded;
  all : l.yielded ++ l.clause-iterator.rest.items ≡ l.fn.clauses.items;
}
