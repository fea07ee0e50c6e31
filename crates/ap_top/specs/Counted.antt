-- What is told of each query of a run: which groups it got, what it was charged, and that a worker that is alone takes nothing.
use Rattle.std.specs.Prelude.{◌≡◌, ◌≤◌, ℕ, Bool, List, [], ◌∷◌, ◌++◌, Option, codes, true, false, ⊤}
use Rattle.ap_outside.specs.Files.{HasContent}
use Rattle.ap_lexer.specs.Lexeme.{Text}
use Rattle.ap_lexer.specs.Piece.{pieces}
use Rattle.ap_lexer.specs.declared.cut.Piece.{Piece}
use Rattle.ap_term.specs.AtomTable.{fixed_names}
use Rattle.ap_term.specs.Goals.{Program, Query}
use Rattle.ap_clause.specs.Reads.{AcceptsProgram, AcceptsQuery, RefusesQuery}
use Rattle.ap_clause.specs.declared.refusal.Refusal.{Refusal}
use Rattle.ap_gen.specs.Generator.{question, workload}
use Rattle.ap_mel.specs.declared.annotations.Kind.TheVariants as kind
use Rattle.ap_words.specs.Asked as words
use Rattle.ap_worker.specs.declared.emission.Ended.{Ended}
use Rattle.ap_worker.specs.Ends.{end_of}
use Rattle.ap_worker.specs.Totals.{NoneTaken}
use Rattle.ap_top.specs.Ends.{IsTaken, IsTold}
use Rattle.ap_top.specs.Loads.{IsSummed}
use Rattle.ap_top.specs.Output.{IsCounted, end_line, judged}
use Rattle.ap_top.specs.Shows.{kind_of}
use Rattle.ap_top.specs.Words.{Asked}
use Rattle.ap_top.specs.declared.answers.Bounds.{Bounds}
use Rattle.ap_top.specs.declared.status.Status.{Status}
use Rattle.ap_top.specs.declared.status.Status.TheVariants as status

-- The lines of a query's answers, for which it was charged so with the groups of that kind, and the line that ends them. Where
-- there is one worker, no goal was taken.
abbrev pub IsCountedBlock : Bounds → ℕ → Program → List (List ℕ) → Query → List (List ℕ) → Type 0
IsCountedBlock bounds workers program table query lines =
    (answers : List (List ℕ)) × (e : Ended) × (lines ≡ answers ++ end_line (end_of e.end) ∷ []) × IsCounted bounds.kind bounds.budget bounds.answers program table query e answers
    × (e.charged ≤ e.total.sum) × (workers ≡ 1 → NoneTaken e)

-- what is printed for a piece of a text, beside a program and its table of names: where it reads as a query, such a block
pub data IsCountedPiece (bounds : Bounds) (workers : ℕ) (program : Program) (table : List (List ℕ)) (text : Text) (piece : Piece) : List (List ℕ) → Type 0 where
  answered : (query : Query) (names lines : List (List ℕ)) → AcceptsQuery text piece program table query names → IsCountedBlock bounds workers program names query lines
      → IsCountedPiece bounds workers program table text piece lines
  refused : (r : Refusal) (lines : List (List ℕ)) → RefusesQuery text piece program table r → IsCountedPiece bounds workers program table text piece lines

-- the same for pieces, in order
abbrev pub IsCountedOutput : Bounds → ℕ → Program → List (List ℕ) → Text → List Piece → List (List ℕ) → Type 0
IsCountedOutput bounds workers program table text [] lines = lines ≡ []
IsCountedOutput bounds workers program table text (piece ∷ pieces) lines =
    (block rest : List (List ℕ)) × (lines ≡ block ++ rest) × IsCountedPiece bounds workers program table text piece block × IsCountedOutput bounds workers program table text pieces rest

-- ---- by what a command line asks for

abbrev pub bounds_of : Asked → Bounds
bounds_of what = record { budget = what.budget; answers = what.answers; kind = kind_of what.groups }

-- a run that ends so has answered queries of its source
abbrev pub HasAnswered : Status → Type 0
HasAnswered status.Done = ⊤
HasAnswered status.BudgetSpent = ⊤
HasAnswered status.QueryRefused = ⊤
HasAnswered status.SourceFault = ⊤
HasAnswered _ = ⊥

-- a source, over an accepted program and its table of names: all of it, or what was taken before a fault
abbrev pub SourceCounted : Asked → Program → List (List ℕ) → Option (List ℕ) → Status → List (List ℕ) → Type 0
SourceCounted what program table source status.SourceFault lines =
    (taken : List ℕ) × (blocks : List (List ℕ)) × IsTaken source taken × (lines ≡ blocks ++ codes "fault: source\n" ∷ [])
    × IsCountedOutput (bounds_of what) what.workers program table taken (judged false taken) blocks
SourceCounted what program table source _ lines =
    (input : List ℕ) × IsTold source input × IsCountedOutput (bounds_of what) what.workers program table input (judged true input) lines

-- the bytes of a file
abbrev pub TextCounted : Asked → List ℕ → Option (List ℕ) → Status → List (List ℕ) → Type 0
TextCounted what bytes source s lines = (program : Program) × (table : List (List ℕ)) × AcceptsProgram bytes fixed_names program table × SourceCounted what program table source s lines

-- the file that was asked for
abbrev pub FileCounted : Asked → Option (List (List ℕ × List ℕ)) → Option (List ℕ) → Status → List (List ℕ) → Type 0
FileCounted what entries source s lines = (bytes : List ℕ) × HasContent entries what.file (λ content. content ≡ bytes) × TextCounted what bytes source s lines

-- ---- `load`

-- the bounds where none are given
abbrev pub usual : Bounds
usual = record { budget = 10000000; answers = 1000000; kind = kind.Mel }

-- the question of an accepted program is answered so, and summed up
abbrev pub QuestionCounted : ℕ → ℕ → ℕ → Program → List (List ℕ) → List (List ℕ) → Type 0
QuestionCounted seed size workers program table lines =
    (block : List (List ℕ)) × (refused : Bool) × IsCountedOutput usual workers program table question (pieces question) block × IsSummed seed size refused block lines

-- the program of a seed and a size
abbrev pub LoadCounted : ℕ → ℕ → ℕ → List (List ℕ) → Type 0
LoadCounted seed size workers lines =
    (program : Program) × (table : List (List ℕ)) × AcceptsProgram (workload seed size) fixed_names program table × QuestionCounted seed size workers program table lines

-- ---- what a command line asks for

abbrev pub AskedCounted : words.Asked → Option (List (List ℕ × List ℕ)) → Option (List ℕ) → Status → List (List ℕ) → Type 0
AskedCounted (words.runs what) entries source s lines = FileCounted what entries source s lines
AskedCounted (words.loads seed size workers) entries source s lines = LoadCounted seed size workers lines
AskedCounted _ entries source s lines = ⊤
