-- Which lines `load` puts, and the status that they go with.
use Rattle.std.specs.Prelude.{◌≡◌, ℕ, Bool, true, false, List, [], ◌∷◌, ◌++◌}
use Rattle.ap_lexer.specs.Piece.{pieces}
use Rattle.ap_lexer.specs.declared.cut.Piece.{Piece}
use Rattle.ap_term.specs.AtomTable.{fixed_names}
use Rattle.ap_term.specs.Goals.{Program}
use Rattle.ap_clause.specs.Reads.{AcceptsProgram, RefusesProgram}
use Rattle.ap_clause.specs.declared.refusal.Refusal.{Refusal}
use Rattle.ap_gen.specs.Generator.{question, workload}
use Rattle.ap_gen.specs.Summary.{summary}
use Rattle.ap_top.specs.Output.{PieceEnds}
use Rattle.ap_top.specs.Refusals.{refusal_line}
use Rattle.ap_top.specs.Status.{status_of}
use Rattle.ap_top.specs.declared.status.Status.{Status}
use Rattle.ap_top.specs.declared.status.Status.TheVariants.{ProgramRefused}
use Rattle.ap_top.specs.declared.status.Tally.{Tally}

-- what is put for the lines that the question came to: the summary of its block, and those lines where it was refused
abbrev pub IsSummed : ℕ → ℕ → Bool → List (List ℕ) → List (List ℕ) → Type 0
IsSummed seed size true block lines = lines ≡ block
IsSummed seed size false block lines = (answers : List (List ℕ)) × (end : List ℕ) × (block ≡ answers ++ end ∷ []) × (lines ≡ summary seed size answers end)

-- what the question of an accepted program comes to: what `run` would put for it where no bounds are given, summed up
pub data QuestionEnds (seed size : ℕ) (program : Program) (table : List (List ℕ)) : Status → List (List ℕ) → Type 0 where
  asked : (piece : Piece) (t : Tally) (status : Status) (block lines : List (List ℕ)) → pieces question ≡ piece ∷ [] → PieceEnds 10000000 1000000 program table question piece t block
      → IsSummed seed size t.refused block lines → status ≡ status_of t → QuestionEnds seed size program table status lines

-- the program of a seed and a size
pub data LoadEnds (seed size : ℕ) : Status → List (List ℕ) → Type 0 where
  refused : (r : Refusal) (lines : List (List ℕ)) → RefusesProgram (workload seed size) fixed_names r → lines ≡ refusal_line fixed_names r ∷ [] → LoadEnds seed size ProgramRefused lines
  accepted : (program : Program) (table : List (List ℕ)) (status : Status) (lines : List (List ℕ)) → AcceptsProgram (workload seed size) fixed_names program table
      → QuestionEnds seed size program table status lines → LoadEnds seed size status lines
