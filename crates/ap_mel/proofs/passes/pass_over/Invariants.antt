use Rattle.std.proofs.Common.{◌≡◌, ◌++◌, ◌&&◌, drop}
use Rattle.ap_patterns.specs.Given.{patterns}
use Rattle.ap_mel.specs.Mended.{mended_program, is_program_settled}
use Rattle.ap_mel.proofs.passes.pass_over.Given as goal

abbrev pub invariant-loop-i : goal.invariant-loop-i
invariant-loop-i l = record {
  whole : l.mended.items ++ mended_program l.kind (patterns l.table) (drop l.i l.written) (drop l.i l.clauses) ≡ mended_program l.kind (patterns l.table) l.written l.clauses;
  stays : (l.settled && is_program_settled l.kind (patterns l.table) (drop l.i l.written) (drop l.i l.clauses)) ≡ is_program_settled l.kind (patterns l.table) l.written l.clauses;
}
