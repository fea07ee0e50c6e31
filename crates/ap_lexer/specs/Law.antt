-- What holds of every text: how it is cut, where its pieces lie, and that tokens need no places.
use Rattle.std.specs.Prelude.{◌≡◌, ℕ, ◌+◌, ◌<◌, ◌≤◌, Bool, true, false, ◌==◌, List, [], ◌∷◌, length, take, drop, Some, None}
use Rattle.std.specs.List.{concat}
use Rattle.ap_lexer.specs.declared.kind.TokenKind.{TokenKind}
use Rattle.ap_lexer.specs.declared.kind.TokenKind.TheVariants as token
use Rattle.ap_lexer.specs.declared.kind.LexemeKind.{LexemeKind}
use Rattle.ap_lexer.specs.declared.kind.LexemeKind.TheVariants as kind
use Rattle.ap_lexer.specs.declared.cut.Piece.{Piece}
use Rattle.ap_lexer.specs.Lexeme.{Text, Lexeme, lexeme, lexemes}
use Rattle.ap_lexer.specs.Piece.{Role, Gap, Part, Last, Fault, role, piece, line_at}
use Rattle.ap_lexer.specs.Token.{Placed, tokens}

-- one lexeme after another, to the end of the text
abbrev pub IsCutting : Text → List Lexeme → Type 0
IsCutting text [] = text ≡ []
IsCutting text (x ∷ xs) = (0 < x.1) × (x.1 ≤ length text) × (x ≡ lexeme text) × IsCutting (drop x.1 text) xs

-- the bytes of each lexeme
abbrev pub spellings : Text → List Lexeme → List Text
spellings text [] = []
spellings text (x ∷ xs) = take x.1 text ∷ spellings (drop x.1 text) xs

-- a text has one cutting, and it leaves no byte out
pub record HasOneCutting (text : Text) : Type 0 where
  pub cut : IsCutting text (lexemes text)
  pub one : (xs : List Lexeme) → IsCutting text xs → xs ≡ lexemes text
  pub whole : concat (spellings text (lexemes text)) ≡ text

-- Pieces lie one behind the other from a place on, and none is empty.
abbrev pub LieInOrder : ℕ → List Piece → Type 0
LieInOrder at [] = Unit {0}
LieInOrder at (p ∷ ps) = (at ≤ p.from) × (p.from < p.to) × LieInOrder p.to ps

-- The piece that has begun at a place and whose next lexemes stand at another: through its first
-- end token or bad token, or to the end of the text.
abbrev pub piece_by : Role → Text → ℕ → ℕ → ℕ → Piece → Piece
piece_by Gap text from at to longer = longer
piece_by Part text from at to longer = longer
piece_by Last text from at to longer = piece text from to true None
piece_by (Fault ended) text from at to longer = piece text from to ended (Some (line_at text at))

abbrev pub piece_of : Text → ℕ → ℕ → List Lexeme → Piece
piece_of text from at [] = piece text from at false None
piece_of text from at (x ∷ xs) = piece_by (role x.0) text from at (at + x.1) (piece_of text from (at + x.1) xs)

-- where a piece of a text lies, and that it runs through its first end token or bad token
pub record IsPieceOf (text : Text) (p : Piece) : Type 0 where
  pub some : p.from < p.to
  pub within : p.to ≤ length text
  pub line_is : p.line ≡ line_at text p.from
  pub ends : p ≡ piece_of text p.from p.from (lexemes (drop p.from text))

-- a token as it is spelled, and whether the next one touches it
pub record Spelled : Type 0 where
  pub kind : TokenKind
  pub text : Text
  pub touches : Bool

abbrev pub touches_next : ℕ → List Placed → Bool
touches_next to [] = false
touches_next to (t ∷ ts) = to == t.from

-- tokens without their places
abbrev pub unplaced : List Placed → List Spelled
unplaced [] = []
unplaced (t ∷ ts) = record { kind = t.kind; text = t.text; touches = touches_next t.to ts } ∷ unplaced ts

abbrev pub is_token : LexemeKind → Bool
is_token (kind.Token row) = true
is_token kind.Layout = false
is_token kind.Comment = false
is_token (kind.Bad ended) = false

abbrev pub begins_token : List Lexeme → Bool
begins_token [] = false
begins_token (x ∷ xs) = is_token x.0

abbrev pub spelled_by : LexemeKind → Text → ℕ → Bool → List Spelled → List Spelled
spelled_by (kind.Token token.End) text n touches rest = record { kind = token.End; text = take n text; touches = false } ∷ []
spelled_by (kind.Token row) text n touches rest = record { kind = row; text = take n text; touches = touches } ∷ rest
spelled_by kind.Layout text n touches rest = rest
spelled_by kind.Comment text n touches rest = rest
spelled_by (kind.Bad ended) text n touches rest = []

-- the tokens of a text's first piece, by its bytes alone: through the first end token
abbrev pub spelled : Text → List Lexeme → List Spelled
spelled text [] = []
spelled text (x ∷ xs) = spelled_by x.0 text x.1 (begins_token xs) (spelled (drop x.1 text) xs)

-- the tokens of a piece without a bad token, read without places
abbrev pub ReadsWithoutPlaces : Text → Piece → Type 0
ReadsWithoutPlaces text p = p.bad ≡ None → unplaced (tokens text p) ≡ spelled (drop p.from text) (lexemes (drop p.from text))
