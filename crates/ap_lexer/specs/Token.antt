-- The tokens of a piece.
use Rattle.std.specs.Prelude.{ℕ, ◌+◌, nat_lt, if◌then◌else◌, List, [], ◌∷◌, ◌++◌, take, drop}
use Rattle.ap_lexer.specs.declared.kind.TokenKind.{TokenKind}
use Rattle.ap_lexer.specs.declared.kind.LexemeKind.{LexemeKind}
use Rattle.ap_lexer.specs.declared.kind.LexemeKind.TheVariants as kind
use Rattle.ap_lexer.specs.declared.cut.Piece.{Piece}
use Rattle.ap_lexer.specs.declared.split.Token.{Token}
use Rattle.ap_lexer.specs.Lexeme.{Text, Lexeme, lexemes}
use Rattle.ap_lexer.specs.Piece.{line_at}

-- a token without where its text lies in memory
pub record Placed : Type 0 where
  pub kind : TokenKind
  pub text : Text
  pub from : ℕ
  pub to : ℕ
  pub line : ℕ

abbrev pub view : Token → Placed
view t = record { kind = t.kind; text = t.text.now; from = t.from; to = t.to; line = t.line }

-- the token that a lexeme at a place is, if it is one
abbrev pub token_of : LexemeKind → Text → ℕ → ℕ → List Placed
token_of (kind.Token row) text at n = record { kind = row; text = take n (drop at text); from = at; to = at + n; line = line_at text at } ∷ []
token_of kind.Layout text at n = []
token_of kind.Comment text at n = []
token_of (kind.Bad ended) text at n = []

-- the tokens that begin before a place
abbrev pub tokens_from : Text → ℕ → ℕ → List Lexeme → List Placed
tokens_from text at to [] = []
tokens_from text at to (x ∷ xs) = if nat_lt at to then token_of x.0 text at x.1 ++ tokens_from text (at + x.1) to xs else []

abbrev pub tokens : Text → Piece → List Placed
tokens text p = tokens_from text p.from p.to (lexemes (drop p.from text))
