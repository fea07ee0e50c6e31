use Rattle.std.proofs.Common.{◌≡◌, drop}
use Rattle.ap_codegen.specs.Assembled.{Grows}
use Rattle.ap_codegen.specs.Heads.{with_heads}
use Rattle.ap_codegen.proofs.programs.add_heads.Given as goal

abbrev pub invariant-loop-clause : goal.invariant-loop-clause
invariant-loop-clause l =
    Grows l.fn.tables l.tables × (with_heads l.tables.predicates (drop l.clause-index l.clauses) ≡ with_heads l.fn.tables.predicates l.clauses)
