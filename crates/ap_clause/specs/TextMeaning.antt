-- What a program and a query that were read mean: their search is that of the clauses as they are written.
use Rattle.std.specs.Prelude.{ℕ, ◌<◌, ◌≤◌, List, [], ◌∷◌, ◌++◌, length}
use Rattle.ap_lexer.specs.Lexeme.{Text}
use Rattle.ap_lexer.specs.Piece.{pieces}
use Rattle.ap_lexer.specs.declared.cut.Piece.{Piece}
use Rattle.ap_term.specs.AtomTable.{fixed_names}
use Rattle.ap_term.specs.Goals.{Program, Query}
use Rattle.ap_lifting.specs.Rule.{Rule}
use Rattle.ap_lifting.specs.LiftingLaws.{AvoidsIf, KeepsMeaning}
use Rattle.ap_clause.specs.declared.source.Source.TheVariants as source
use Rattle.ap_clause.specs.Reads.{Position, Taken, Took, Judges, Whole, Reads, start, beside, AcceptsProgram, AcceptsQuery}

-- No goal of a clause calls a predicate that was lifted from the program. Their names stand in the table behind those of
-- the program's text.
abbrev pub CallsNoLifted : Position → List Text → Rule → Type 0
CallsNoLifted p table r = (a : ℕ) → length p.table ≤ a → a < length table → AvoidsIf a r.body

-- The clauses that a text is read as, and the one that a piece is. The search of the program and the query that lifting
-- makes of them is that of these clauses, where the query calls none of the program's lifted predicates.
pub record MeansItsText (text asked : Text) (piece : Piece) (program : Program) (table : List Text) (query : Query) : Type 0 where
  pub rules : List Rule
  pub position : Position
  pub question : Taken
  pub read : Reads text (pieces text) (start fixed_names) [] (Whole rules position)
  pub judged : Judges source.Query asked (beside program table) piece (Took question)
  pub meaning : CallsNoLifted position table question.rule → KeepsMeaning (rules ++ question.rule ∷ []) question.rule program query

-- so does every accepted program, with every query that is accepted beside it
abbrev pub TextMeaningLaw : Type 0
TextMeaningLaw =
    (text asked : Text) (piece : Piece) (program : Program) (table new : List Text) (query : Query) → AcceptsProgram text fixed_names program table → AcceptsQuery asked piece program table query new
    → MeansItsText text asked piece program table query
