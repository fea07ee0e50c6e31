-- Kept code of a program.
use Rattle.std.specs.Prelude.{Bool, not, ◌∷◌}
use Rattle.ap_term.specs.Goals.{Program, Query}
use Rattle.ap_instr.specs.Code.{Compiled}
use Rattle.ap_instr.specs.StandsFor.{asked}
use Rattle.ap_codegen.specs.declared.kept.Kept.{Kept}
use Rattle.ap_codegen.specs.Kept.{AreMade, made_code, are_new}

abbrev pub IsKept : Kept → Program → Type 0
IsKept kept p = AreMade kept.tables kept.made kept.listed p

abbrev pub code_of : Kept → Compiled
code_of kept = made_code kept.tables kept.made

-- whether the code has a predicate of a query's clauses
abbrev pub has_one_of : Kept → Query → Bool
has_one_of kept q = not (are_new kept.tables.predicates (asked q ∷ q.lifted))
