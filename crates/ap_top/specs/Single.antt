-- What is put for the first query of a text beside a program, and what is told of it.
use Rattle.std.specs.Prelude.{◌≡◌, ℕ, List, [], ◌∷◌, Option, Some, None}
use Rattle.ap_mel.specs.declared.annotations.Kind.{Kind}
use Rattle.ap_lexer.specs.Lexeme.{Text}
use Rattle.ap_lexer.specs.Piece.{pieces}
use Rattle.ap_lexer.specs.declared.cut.Piece.{Piece}
use Rattle.ap_term.specs.AtomTable.{fixed_names}
use Rattle.ap_term.specs.Goals.{Program, Query}
use Rattle.ap_clause.specs.Reads.{AcceptsProgram, RefusesProgram, AcceptsQuery, RefusesQuery}
use Rattle.ap_clause.specs.declared.refusal.Refusal.{Refusal}
use Rattle.ap_worker.specs.declared.emission.Ended.{Ended}
use Rattle.ap_top.specs.Output.{AreAnswers, IsCounted}

-- beside an accepted program and its table of names
pub data FirstEnds (budget limit : ℕ) (program : Program) (table : List (List ℕ)) (text : Text) : Option Ended → List (List ℕ) → Type 0 where
  none : (lines : List (List ℕ)) → pieces text ≡ [] → lines ≡ [] → FirstEnds budget limit program table text None lines
  refused : (piece : Piece) (rest : List Piece) (r : Refusal) (lines : List (List ℕ)) → pieces text ≡ piece ∷ rest → RefusesQuery text piece program table r → lines ≡ []
      → FirstEnds budget limit program table text None lines
  answered : (piece : Piece) (rest : List Piece) (query : Query) (names : List (List ℕ)) (e : Ended) (lines : List (List ℕ)) → pieces text ≡ piece ∷ rest
      → AcceptsQuery text piece program table query names → AreAnswers budget limit program names query e lines → FirstEnds budget limit program table text (Some e) lines

-- the bytes of a program, and those of the queries
pub data SingleEnds (budget limit : ℕ) (bytes text : Text) : Option Ended → List (List ℕ) → Type 0 where
  refused : (r : Refusal) (lines : List (List ℕ)) → RefusesProgram bytes fixed_names r → lines ≡ [] → SingleEnds budget limit bytes text None lines
  accepted : (program : Program) (table : List (List ℕ)) (e : Option Ended) (lines : List (List ℕ)) → AcceptsProgram bytes fixed_names program table
      → FirstEnds budget limit program table text e lines → SingleEnds budget limit bytes text e lines

-- the first query of a text, accepted beside a program, is charged so, and so many calls were made for it
pub record IsFirstCounted (kind : Kind) (budget limit : ℕ) (program : Program) (table : List (List ℕ)) (text : Text) (e : Ended) (lines : List (List ℕ)) : Type 0 where
  pub piece : Piece
  pub rest : List Piece
  pub query : Query
  pub names : List (List ℕ)
  pub first : pieces text ≡ piece ∷ rest
  pub accepts : AcceptsQuery text piece program table query names
  pub counted : IsCounted kind budget limit program names query e lines

-- the same of the bytes of a program, which is accepted, and those of the queries
pub record IsSingleCounted (kind : Kind) (budget limit : ℕ) (bytes text : Text) (e : Ended) (lines : List (List ℕ)) : Type 0 where
  pub program : Program
  pub table : List (List ℕ)
  pub accepts : AcceptsProgram bytes fixed_names program table
  pub first : IsFirstCounted kind budget limit program table text e lines
