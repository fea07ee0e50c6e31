-- A text that is cut into its pieces one after another. The cutter has the text, or what is left of it behind bytes that are let go.
use Rattle.std.specs.Prelude.{◌≡◌, ◌≤◌, ◌<◌, ◌+◌, ◌^◌, ℕ, List, [], ◌∷◌, length, drop, Option, Some, None}
use Rattle.ap_lexer.specs.declared.cut.Piece.{Piece}
use Rattle.ap_lexer.specs.declared.cutter.Cutter.{Cutter}
use Rattle.ap_lexer.specs.declared.cutter.TheConstants.{MAX_KEPT}
use Rattle.ap_lexer.specs.declared.split.Token.{Token}
use Rattle.ap_lexer.specs.Ahead.{IsSound}
use Rattle.ap_lexer.specs.Lexeme.{Text}
use Rattle.ap_lexer.specs.Piece.{line_at, pieces_behind}
use Rattle.ap_lexer.specs.Token.{Placed, tokens}
use Rattle.ap_lexer.specs.Stream.{IsIn}

abbrev pub text_of : Cutter → Text
text_of c = c.text.now

-- its place in the whole text
abbrev pub place : Cutter → ℕ
place c = c.before + c.at

-- the pieces of the whole text that it hasn't given yet
abbrev pub left : Text → Cutter → List Piece
left whole c = pieces_behind whole (place c)

-- it stands between two pieces, and what it has seen ahead is so
pub record Stands (c : Cutter) : Type 0 where
  pub within : c.at ≤ length (text_of c)
  pub sound : IsSound (text_of c) c.ahead
  pub line_low : c.line ≤ place c + 1
  pub fits : c.before + length (text_of c) < 2 ^ 63

-- it cuts what is left of this text, whose lines it counts
pub record Cuts (whole : Text) (c : Cutter) : Type 0 where
  pub rest : text_of c ≡ drop c.before whole
  pub line_is : c.line ≡ line_at whole (place c)

-- the next piece, if one is left
abbrev pub IsNext : Text → Option Piece → Cutter → Cutter → Type 0
IsNext whole None old new = left whole old ≡ []
IsNext whole (Some p) old new = left whole old ≡ p ∷ left whole new

-- the tokens of a piece, up to a bad one
abbrev pub HasTokens : Text → List Placed → Piece → Type 0
HasTokens text ts p = ts ≡ tokens text p

-- a list of a piece's tokens that has them all
abbrev pub IsKept : List Token → Type 0
IsKept ts = length ts ≤ MAX_KEPT

-- a piece lies in the text that the cutter has
abbrev pub LiesIn : Piece → Cutter → Type 0
LiesIn p c = IsIn (text_of c) c.before p
