-- The pieces of a text, one for each clause.
use Rattle.std.specs.Prelude.{◌≡◌, ◌≤◌, ℕ, ◌+◌, Bool, true, false, ◌==◌, List, [], ◌∷◌, ◌++◌, take, drop, count_by, Option, Some, None}
use Rattle.ap_lexer.specs.declared.kind.TokenKind.TheVariants as token
use Rattle.ap_lexer.specs.declared.kind.LexemeKind.{LexemeKind}
use Rattle.ap_lexer.specs.declared.kind.LexemeKind.TheVariants as kind
use Rattle.ap_lexer.specs.declared.cut.Piece.{Piece}
use Rattle.ap_lexer.specs.Lexeme.{Text, Lexeme, lexemes}

-- the line of a place, from 1
abbrev pub line_at : Text → ℕ → ℕ
line_at text at = 1 + count_by (λ b. b == 10) (take at text)

-- what a lexeme is to the piece that it stands in
pub data Role : Type 0 where
  Gap : Role
  Part : Role
  Last : Role
  Fault : Bool → Role

abbrev pub role : LexemeKind → Role
role kind.Layout = Gap
role kind.Comment = Gap
role (kind.Token token.End) = Last
role (kind.Token _) = Part
role (kind.Bad ended) = Fault ended

-- where the piece of a lexeme begins
abbrev pub start : Option ℕ → ℕ → ℕ
start None at = at
start (Some from) at = from

-- where the piece began that goes on behind a lexeme
abbrev pub begun_after : Role → Option ℕ → ℕ → Option ℕ
begun_after Gap begun at = begun
begun_after Part begun at = Some (start begun at)
begun_after Last begun at = None
begun_after (Fault ended) begun at = None

abbrev pub piece : Text → ℕ → ℕ → Bool → Option ℕ → Piece
piece text from to ended bad = record { from = from; to = to; line = line_at text from; ended = ended; bad = bad }

-- the piece that a lexeme ends
abbrev pub ended_by : Role → Text → ℕ → ℕ → ℕ → List Piece
ended_by Gap text from at to = []
ended_by Part text from at to = []
ended_by Last text from at to = piece text from to true None ∷ []
ended_by (Fault ended) text from at to = piece text from to ended (Some (line_at text at)) ∷ []

-- a last piece without an end goes to the end of the text
abbrev pub unended : Text → ℕ → Option ℕ → List Piece
unended text at None = []
unended text at (Some from) = piece text from at false None ∷ []

-- the pieces from a place on
abbrev pub pieces_from : Text → ℕ → Option ℕ → List Lexeme → List Piece
pieces_from text at begun [] = unended text at begun
pieces_from text at begun (x ∷ xs) = ended_by (role x.0) text (start begun at) at (at + x.1) ++ pieces_from text (at + x.1) (begun_after (role x.0) begun at) xs

-- those that begin behind a place between two of them
abbrev pub pieces_behind : Text → ℕ → List Piece
pieces_behind text at = pieces_from text at None (lexemes (drop at text))

abbrev pub pieces : Text → List Piece
pieces text = pieces_from text 0 None (lexemes text)

-- a piece that has begun began there, on a line that the place can have
abbrev pub BeganIn : ℕ → ℕ → Option (ℕ × ℕ) → Type 0
BeganIn lo hi None = Unit {0}
BeganIn lo hi (Some p) = (lo ≤ p.0) × (p.0 ≤ hi) × (p.1 ≤ p.0 + 1)

-- where a piece began, and its line
abbrev pub Begins : Text → Option (ℕ × ℕ) → Option ℕ → Type 0
Begins text None None = Unit {0}
Begins text (Some p) (Some from) = (p.0 ≡ from) × (p.1 ≡ line_at text from)
Begins text None (Some from) = ⊥
Begins text (Some p) None = ⊥
