use Rattle.std.proofs.Common.{◌≡◌, drop}
use Rattle.ap_codegen.specs.Kept.{are_new}
use Rattle.ap_codegen.proofs.kept.are_new.Given as goal

abbrev pub invariant-loop-clause : goal.invariant-loop-clause
invariant-loop-clause l = are_new l.tables.predicates (drop l.clause-index l.clauses) ≡ are_new l.tables.predicates l.clauses
