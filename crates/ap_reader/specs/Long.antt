-- The steps of a long term, one after another.
use Rattle.std.specs.Prelude.{◌≡◌, ℕ, ◌-◌, ◌<◌, ◌≤◌, List, [], ◌∷◌, ◌++◌, map, take, length, All, slice_get, Option, Some, None, Result, Ok, Err, IfSome, Bool, true, false}
use Rattle.std.specs.declared.alloc.Global.{Global}
use Rattle.std.specs.declared.vec.Vec.{Vec}
use Rattle.std.specs.Borrow.{Bor}
use Rattle.ap_term.specs.AtomTable.{insert_names}
use Rattle.ap_term.specs.TermView.{tree_of}
use Rattle.ap_term.specs.declared.names.InternErr.{InternErr}
use Rattle.ap_term.specs.declared.terms.Term.{Term}
use Rattle.ap_reader.specs.Build.{names, term_in, FaultAt}
use Rattle.ap_lexer.specs.declared.split.Token.{Token}
use Rattle.ap_lexer.specs.declared.stream.Tokens.{Tokens}
use Rattle.ap_lexer.specs.Lexeme.{Text}
use Rattle.ap_lexer.specs.Token.{Placed, view}
use Rattle.ap_lexer.specs.Stream as stream
use Rattle.ap_reader.specs.declared.kept.Kept.{Kept}
use Rattle.ap_reader.specs.declared.long.Steps.{Steps}
use Rattle.ap_reader.specs.declared.pass.ParseErr.{ParseErr}
use Rattle.ap_reader.specs.declared.pass.ParseErr.TheVariants as err
use Rattle.ap_reader.specs.declared.pass.Step.{Step}
use Rattle.ap_reader.specs.declared.pass.Step.TheVariants as p
use Rattle.ap_reader.specs.Grammar.{Tree}
use Rattle.ap_reader.specs.Machine.{State, Wants, over}
use Rattle.ap_reader.specs.Step.{postfix, Shows}
use Rattle.ap_reader.specs.Word.{words, words_from}
use Rattle.ap_reader.specs.Written.{Written, AreText, leaf_at, leaf_of, leaves, variables, meaning}
use Rattle.ap_reader.specs.Leaves.{AreOnce, Numbers, texts}
use Rattle.ap_reader.specs.Reading.{EndsAs, Spells}

-- what stands at a place
abbrev pub look : List Written → ℕ → Written
look xs at = leaf_at (slice_get xs at)

-- the leaves that are kept are those of their places
pub record Keeps (passed : List Written) (k : Kept) : Type 0 where
  pub leaves_are : map leaf_of k.leaves.items ≡ map (look passed) k.places.items
  pub within : All (λ at. at < length passed) k.places.items

-- a step that names, among some leaves, what another one names among others
abbrev pub IsSame : List Written → List Written → Step → Step → Type 0
IsSame xs ys (p.Operand at) step = (n : ℕ) × (step ≡ p.Operand n) × (look ys n ≡ look xs at)
IsSame xs ys (p.Prefix at) step = (n : ℕ) × (step ≡ p.Prefix n) × (look ys n ≡ look xs at)
IsSame xs ys (p.Infix at) step = (n : ℕ) × (step ≡ p.Infix n) × (look ys n ≡ look xs at)
IsSame xs ys (p.Compound at) step = (n : ℕ) × (step ≡ p.Compound n) × (look ys n ≡ look xs at)
IsSame xs ys other step = step ≡ other

-- the tokens that aren't taken yet, the first of which was cut already
abbrev pub Left : Option Token → Tokens → List Placed → Type 0
Left None tokens ts = ts ≡ []
Left (Some t) tokens ts = (rest : List Placed) × (ts ≡ view t ∷ rest) × stream.Gives tokens rest

-- the leaf of the token before and those that are kept are those of the tokens that were taken
pub record Holds (passed : List Written) (s : Steps) : Type 0 where
  pub count : length passed ≡ s.at
  pub kept : Keeps passed s.kept
  pub last : IfSome s.last (λ l. (0 < s.at) × (leaf_of l ≡ look passed (s.at - 1)))

-- the same but for these leaves, and for whether one was named
pub record IsAlike (old new : Steps) : Type 0 where
  pub tokens : new.tokens ≡ old.tokens
  pub token : new.token ≡ old.token
  pub before : new.before ≡ old.before
  pub at : new.at ≡ old.at
  pub mode : new.mode ≡ old.mode
  pub pass : new.pass ≡ old.pass
  pub given : new.given ≡ old.given
  pub variables : new.variables ≡ old.variables
  pub is_over : new.is_over ≡ old.is_over

-- what is known of the tokens before an end token, some of which were taken
pub record Goes (ts left front : List Placed) (x : State) (passed : List Written) (s : Steps) : Type 0 where
  pub rest : List Placed
  pub ends : EndsAs left rest
  pub words_are : over (Wants []) (words front) ≡ over x (words_from s.before s.at rest)
  pub leaves_are : leaves [] front ≡ passed ++ leaves (texts s.variables.names.items) rest
  pub variables_are : variables [] front ≡ variables (texts s.variables.names.items) rest
  pub text : (AreText rest → AreText front) × (AreText front → AreText rest)

-- before the end token is taken
pub record Going (ts : List Placed) (given : List Step) (passed : List Written) (s : Steps) : Type 0 where
  pub x : State
  pub taken : List Placed
  pub left : List Placed
  pub shows : Shows x s.mode s.pass.stack.items given
  pub left_is : Left s.token s.tokens left
  pub all : ts ≡ taken ++ left
  pub goes : (front : List Placed) → EndsAs ts front → Goes ts left front x passed s

-- before the end token is taken, and behind it
abbrev pub RunsBy : Bool → List Placed → List Step → List Written → Steps → Type 0
RunsBy false ts given passed s = Going ts given passed s
RunsBy true ts given passed s = (front : List Placed) × (t : Tree) × Spells ts front t × (given ≡ postfix t) × (leaves [] front ≡ passed) × (variables [] front ≡ texts s.variables.names.items)

-- it stands in its text, and its variables are numbered
pub record IsReady (s : Steps) : Type 0 where
  pub stands : stream.Stands s.tokens
  pub numbers : Numbers s.variables.numbers (texts s.variables.names.items)
  pub once : AreOnce s.variables.names.items

-- these steps of the tokens were given
pub record Runs (ts : List Placed) (done : List Step) (s : Steps) : Type 0 where
  pub stands : stream.Stands s.tokens
  pub gone : List Step
  pub done_is : done ≡ gone ++ take s.given s.pass.out.items
  pub within : s.given ≤ length s.pass.out.items
  pub passed : List Written
  pub holds : Holds passed s
  pub numbers : Numbers s.variables.numbers (texts s.variables.names.items)
  pub once : AreOnce s.variables.names.items
  pub runs : RunsBy s.is_over ts (gone ++ s.pass.out.items) passed s

-- the leaves among which a step that was given names one
abbrev pub leaves_of : Steps → List Written
leaves_of s = map leaf_of s.kept.leaves.items

-- between two tokens: all steps so far were given, and this token was cut but isn't taken yet
pub record Between (ts : List Placed) (done : List Step) (t : Placed) (s : Steps) : Type 0 where
  pub stands : stream.Stands s.tokens
  pub none : s.pass.out.items ≡ []
  pub given : s.given ≡ 0
  pub running : s.is_over ≡ false
  pub passed : List Written
  pub holds : Holds passed s
  pub numbers : Numbers s.variables.numbers (texts s.variables.names.items)
  pub once : AreOnce s.variables.names.items
  pub x : State
  pub taken : List Placed
  pub left : List Placed
  pub shows : Shows x s.mode s.pass.stack.items done
  pub left_is : Left s.token s.tokens left
  pub all : ts ≡ taken ++ t ∷ left
  pub goes : (front : List Placed) → EndsAs ts front → Goes ts (t ∷ left) front x passed s

-- the next token was taken; or the tokens spell no term
abbrev pub Takes : List Placed → List Step → Result (Unit {0}) ParseErr → Steps → Type 0
Takes ts done (Ok u) new = Runs ts done new
Takes ts done (Err err.NotATerm) new = (front : List Placed) (t : Tree) → Spells ts front t → ⊥
Takes ts done (Err err.NoMemory) new = Unit {0}

-- The next step, which each tree that the tokens spell has; the steps are those of the tree that they spell; or they spell none.
abbrev pub Nexts : List Placed → List Step → Result (Option Step) ParseErr → Steps → Type 0
Nexts ts done (Ok (Some step)) new =
    (real : Step) × Runs ts (done ++ real ∷ []) new
    × ((front : List Placed) (t : Tree) → Spells ts front t → (more : List Step) × (postfix t ≡ done ++ real ∷ more) × IsSame (leaves [] front) (leaves_of new) real step)
Nexts ts done (Ok None) new = (front : List Placed) × (t : Tree) × Spells ts front t × (done ≡ postfix t) × (texts new.variables.names.items ≡ variables [] front)
Nexts ts done (Err err.NotATerm) new = (front : List Placed) (t : Tree) → Spells ts front t → ⊥
Nexts ts done (Err err.NoMemory) new = Unit {0}

-- what is asked of the tree that the tokens spell; or they spell none
abbrev pub Answers : {A : Type 0} → List Placed → (List Placed → Tree → A → Type 0) → Result A ParseErr → Type 0
Answers ts P (Ok a) = (front : List Placed) × (t : Tree) × Spells ts front t × P front t a
Answers ts P (Err err.NotATerm) = (front : List Placed) (t : Tree) → Spells ts front t → ⊥
Answers ts P (Err err.NoMemory) = Unit {0}

-- the term of a tree over leaves and the names of its variables, with its names in the table
abbrev pub IsBuilt : List Written → Tree → List Text → List Text → List Text → Result (Term × Vec (Bor (List ℕ)) Global) InternErr → Type 0
IsBuilt xs t vs old new (Ok p) = (tree_of p.0 ≡ term_in new (meaning xs t)) × (new ≡ insert_names old (names xs (postfix t))) × (texts p.1.items ≡ vs)
IsBuilt xs t vs old new (Err e) = FaultAt (names xs (postfix t)) old new e
