-- What reading tokens answers.
use Rattle.std.specs.Prelude.{◌≡◌, ℕ, ◌<◌, ◌≤◌, ◌⊎◌, List, [], ◌∷◌, ◌++◌, map, length, Result, Ok, Err}
use Rattle.ap_lexer.specs.declared.kind.TokenKind.TheVariants as token
use Rattle.ap_lexer.specs.Lexeme.{Text}
use Rattle.ap_lexer.specs.Token.{Placed}
use Rattle.ap_term.specs.AtomTable.{insert_names, capacity}
use Rattle.ap_term.specs.TermView.{tree_of}
use Rattle.ap_term.specs.declared.terms.Term.{Term}
use Rattle.ap_reader.specs.declared.written.WrittenTerm.{WrittenTerm}
use Rattle.ap_reader.specs.declared.written.ReadTerm.{ReadTerm}
use Rattle.ap_reader.specs.declared.written.TheConstants.{MAX_OPEN}
use Rattle.ap_reader.specs.declared.depth.TheConstants.{MAX_DEPTH}
use Rattle.ap_reader.specs.declared.error.ReadErr.{ReadErr}
use Rattle.ap_reader.specs.declared.error.ReadErr.TheVariants as err
use Rattle.ap_reader.specs.Bracket.{most_open}
use Rattle.ap_reader.specs.Grammar.{Tree, spelled, IsWhole}
use Rattle.ap_reader.specs.Step.{postfix}
use Rattle.ap_reader.specs.Word.{words}
use Rattle.ap_reader.specs.Written.{Written, AreText, leaves, leaf_of, variables, meaning}
use Rattle.ap_reader.specs.Depth.{depth}
use Rattle.ap_reader.specs.Leaves.{texts}
use Rattle.ap_reader.specs.Build.{names, term_in}

abbrev pub first_line : List Placed → ℕ
first_line [] = 1
first_line (t ∷ ts) = t.line

-- an end token is last, and these stand before it
abbrev pub EndsAs : List Placed → List Placed → Type 0
EndsAs ts front = (last : Placed) × (last.kind ≡ token.End) × (ts ≡ front ++ last ∷ [])

-- the tokens, the last of which is an end token, spell the tree
pub record Spells (ts front : List Placed) (t : Tree) : Type 0 where
  pub ends : EndsAs ts front
  pub text : AreText front
  pub rules : IsWhole t
  pub spelling : spelled t ≡ words front

-- the term that a tree is, over the tokens before the end token
abbrev pub term_of : List Placed → Tree → Written
term_of front t = meaning (leaves [] front) t

-- what stands for the tree until the term is built
pub record StandsFor (front : List Placed) (t : Tree) (w : WrittenTerm) : Type 0 where
  pub steps : w.steps.items ≡ postfix t
  pub leaves_are : map leaf_of w.leaves.items ≡ leaves [] front
  pub variables_are : texts w.names.items ≡ variables [] front

-- The tree that the tokens spell; they spell none; or too many brackets are open.
abbrev pub Parsed : List Placed → Result WrittenTerm ReadErr → Type 0
Parsed ts (Ok w) = (most_open 0 ts ≤ MAX_OPEN) × (w.line ≡ first_line ts) × ((front : List Placed) × (t : Tree) × Spells ts front t × StandsFor front t w)
Parsed ts (Err (err.NotAClause line)) = (most_open 0 ts ≤ MAX_OPEN) × (line ≡ first_line ts) × ((front : List Placed) (t : Tree) → Spells ts front t → ⊥)
Parsed ts (Err (err.TooDeep line)) = (MAX_OPEN < most_open 0 ts) × (line ≡ first_line ts)
Parsed ts (Err (err.TooManyAtoms line)) = ⊥
Parsed ts (Err err.NoMemory) = Unit {0}

-- The term of a tree over leaves, with its names in the table; it is too deep; or the table has no room for its names.
-- The table stays as it was after each error.
abbrev pub BuiltTerm : List Written → Tree → ℕ → List (List ℕ) → List (List ℕ) → Result Term ReadErr → Type 0
BuiltTerm xs t at old new (Ok u) =
    (depth (meaning xs t) ≤ MAX_DEPTH) × (new ≡ insert_names old (names xs (postfix t))) × (length new ≤ capacity) × (tree_of u ≡ term_in new (meaning xs t))
BuiltTerm xs t at old new (Err (err.NotAClause line)) = ⊥
BuiltTerm xs t at old new (Err (err.TooDeep line)) = (MAX_DEPTH < depth (meaning xs t)) × (line ≡ at) × (new ≡ old)
BuiltTerm xs t at old new (Err (err.TooManyAtoms line)) = (depth (meaning xs t) ≤ MAX_DEPTH) × (capacity < length (insert_names old (names xs (postfix t)))) × (line ≡ at) × (new ≡ old)
BuiltTerm xs t at old new (Err err.NoMemory) = new ≡ old

-- the same, with the names of the variables
abbrev pub BuiltAs : List Written → Tree → ℕ → List Text → List (List ℕ) → List (List ℕ) → Result ReadTerm ReadErr → Type 0
BuiltAs xs t at ns old new (Ok r) =
    (depth (meaning xs t) ≤ MAX_DEPTH) × (new ≡ insert_names old (names xs (postfix t))) × (length new ≤ capacity) × (tree_of r.term ≡ term_in new (meaning xs t)) × (r.names.items ≡ ns)
BuiltAs xs t at ns old new (Err e) = BuiltTerm xs t at old new (Err e)

-- The term that the tokens spell, or the first cause why there is none: more than MAX_OPEN brackets open; no term; a
-- term deeper than MAX_DEPTH; no room for its names.
abbrev pub ReadAs : List Placed → List (List ℕ) → List (List ℕ) → Result ReadTerm ReadErr → Type 0
ReadAs ts old new (Err (err.NotAClause line)) = (most_open 0 ts ≤ MAX_OPEN) × (line ≡ first_line ts) × ((front : List Placed) (t : Tree) → Spells ts front t → ⊥) × (new ≡ old)
ReadAs ts old new (Err (err.TooDeep line)) =
    (line ≡ first_line ts) × (new ≡ old) × ((MAX_OPEN < most_open 0 ts) ⊎ ((most_open 0 ts ≤ MAX_OPEN) × ((front : List Placed) × (t : Tree) × Spells ts front t × (MAX_DEPTH < depth (term_of front t)))))
ReadAs ts old new (Err err.NoMemory) = new ≡ old
ReadAs ts old new result = (most_open 0 ts ≤ MAX_OPEN) × ((front : List Placed) × (t : Tree) × Spells ts front t × BuiltAs (leaves [] front) t (first_line ts) (variables [] front) old new result)
