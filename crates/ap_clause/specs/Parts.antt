-- A text that is read part by part.
use Rattle.std.specs.Prelude.{◌≡◌, ◌<◌, ◌≤◌, ◌+◌, ◌⊎◌, ℕ, List, [], Option, Some, None, Result, Ok, Err}
use Rattle.ap_lexer.specs.Lexeme.{Text}
use Rattle.ap_lexer.specs.declared.cut.Piece.{Piece}
use Rattle.ap_lexer.specs.Piece.{line_at, pieces_behind}
use Rattle.ap_lifting.specs.Rule.{Rule}
use Rattle.ap_clause.specs.declared.refusal.Refusal.{Refusal}
use Rattle.ap_clause.specs.declared.refusal.Refusal.TheVariants as refusal
use Rattle.ap_clause.specs.declared.read.Spot.{Spot}
use Rattle.ap_clause.specs.Reads.{Position, Outcome, Stopped, Reads}

-- what is left, behind more clauses, is read to outcomes of what was left before
abbrev pub LeadsTo : Text → List Piece → Position → List Rule → List Piece → Position → List Rule → Type 0
LeadsTo text ps p rules others q more = (out : Outcome) → Reads text others q more out → Reads text ps p rules out

-- read up to a place, to the end, or to a refusal; or memory is wanting
abbrev pub ReadsFurther : Text → List Piece → Position → List Rule → Position → List Rule → Result (Option Spot) Refusal → Type 0
ReadsFurther text ps p rules q more (Ok (Some s)) = LeadsTo text ps p rules (pieces_behind text s.at) q more × (s.line ≡ line_at text s.at)
ReadsFurther text ps p rules q more (Ok None) = LeadsTo text ps p rules [] q more
ReadsFurther text ps p rules q more (Err e) = (e ≡ refusal.NoMemory) ⊎ Reads text ps p rules (Stopped e)

-- a place of what is left of a text, behind more than so many of its bytes
pub record IsFurther (from : Spot) (len until : ℕ) (s : Spot) : Type 0 where
  pub further : from.at + until < s.at
  pub within : s.at ≤ from.at + len
  pub line_low : s.line ≤ s.at + 1
