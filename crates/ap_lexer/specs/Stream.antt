-- The tokens of a piece, one after another. The text, or what is left of it behind bytes that are let go, is held once.
use Rattle.std.specs.Prelude.{◌≡◌, ◌≤◌, ◌<◌, ◌+◌, ◌++◌, ◌^◌, ◌==◌, ℕ, nat_lt, if◌then◌else◌, count_by, List, [], ◌∷◌, length, take, drop, Option, Some, None}
use Rattle.ap_lexer.specs.declared.cut.Piece.{Piece}
use Rattle.ap_lexer.specs.declared.split.Token.{Token}
use Rattle.ap_lexer.specs.declared.stream.Tokens.{Tokens}
use Rattle.ap_lexer.specs.Ahead.{IsSound}
use Rattle.ap_lexer.specs.declared.kind.LexemeKind.{LexemeKind}
use Rattle.ap_lexer.specs.declared.kind.LexemeKind.TheVariants as kind
use Rattle.ap_lexer.specs.Lexeme.{Text, Lexeme, lexemes}
use Rattle.ap_lexer.specs.Token.{Placed, view}

abbrev pub text_of : Tokens → Text
text_of s = s.text.now

-- a piece lies in what is left of a text behind so many bytes
pub record IsIn (text : Text) (before : ℕ) (p : Piece) : Type 0 where
  pub low : before ≤ p.from
  pub some : p.from ≤ p.to
  pub high : p.to ≤ before + length text
  pub line_low : p.line ≤ p.from + 1

-- it stands in its text, and what it has seen ahead is so
pub record Stands (s : Tokens) : Type 0 where
  pub within : s.at ≤ length (text_of s)
  pub end : s.to ≤ length (text_of s)
  pub sound : IsSound (text_of s) s.ahead
  pub line_low : s.line ≤ s.before + s.at + 1
  pub fits : s.before + length (text_of s) < 2 ^ 63

-- the token that a lexeme at a place in a line is, if it is one, in what is left of a text behind so many bytes
abbrev pub token_in : LexemeKind → Text → ℕ → ℕ → ℕ → ℕ → List Placed
token_in (kind.Token row) text before at line n = record { kind = row; text = take n (drop at text); from = before + at; to = before + at + n; line = line } ∷ []
token_in kind.Layout text before at line n = []
token_in kind.Comment text before at line n = []
token_in (kind.Bad ended) text before at line n = []

-- the tokens from a place in a line on
abbrev pub tokens_in : Text → ℕ → ℕ → ℕ → ℕ → List Lexeme → List Placed
tokens_in text before at to line [] = []
tokens_in text before at to line (x ∷ xs) = if nat_lt at to then token_in x.0 text before at line x.1 ++ tokens_in text before (at + x.1) to (line + count_by (λ b. b == 10) (take x.1 (drop at text))) xs else []

-- these tokens are still to come
pub record Gives (s : Tokens) (ts : List Placed) : Type 0 where
  pub are : ts ≡ tokens_in (text_of s) s.before s.at s.to s.line (lexemes (drop s.at (text_of s)))

-- the next token was given, if there was one
abbrev pub Follows : Tokens → Option Token → Tokens → Type 0
Follows old None new = (ts : List Placed) → Gives old ts → ts ≡ []
Follows old (Some t) new = (ts : List Placed) → Gives old ts → (rest : List Placed) × (ts ≡ view t ∷ rest) × Gives new rest
