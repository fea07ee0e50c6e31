-- What judging a clause answers.
use Rattle.std.specs.Prelude.{◌≡◌, ℕ, ◌+◌, ◌≤◌, nat_lt, true, false, List, [], ◌∷◌, length, ◌⊎◌, Option, Some, None, Result, Ok, Err}
use Rattle.std.specs.declared.alloc.Global.{Global}
use Rattle.std.specs.declared.vec.Vec.{Vec}
use Rattle.ap_lexer.specs.Lexeme.{Text}
use Rattle.ap_reader.specs.Leaves.{texts}
use Rattle.ap_lexer.specs.declared.cut.Piece.{Piece}
use Rattle.ap_lexer.specs.Token.{Placed}
use Rattle.ap_reader.specs.declared.written.TheConstants.{MAX_OPEN}
use Rattle.ap_reader.specs.declared.depth.TheConstants.{MAX_DEPTH}
use Rattle.ap_reader.specs.Bracket.{most_open}
use Rattle.ap_reader.specs.Depth.{depth}
use Rattle.ap_reader.specs.Grammar as grammar
use Rattle.ap_reader.specs.Reading.{Spells, term_of}
use Rattle.ap_term.specs.Tree.{Tree}
use Rattle.ap_term.specs.AtomTable.{capacity}
use Rattle.ap_lifting.specs.Rule.{Rule, IsRule}
use Rattle.ap_lifting.specs.Sizes.{predicates_if, predicates_in}
use Rattle.ap_clause.specs.declared.refusal.What.{What}
use Rattle.ap_clause.specs.declared.refusal.Refusal.{Refusal}
use Rattle.ap_clause.specs.declared.refusal.Refusal.TheVariants as refusal
use Rattle.ap_clause.specs.declared.source.Source.{Source}
use Rattle.ap_clause.specs.declared.source.Source.TheVariants as source
use Rattle.ap_clause.specs.declared.judge.Counts.{Counts}
use Rattle.ap_clause.specs.declared.judge.Read.{Read}
use Rattle.ap_clause.specs.declared.limit.TheConstants.{MAX_VARIABLES}
use Rattle.ap_clause.specs.Clause.{halves, rule_of}
use Rattle.ap_clause.specs.Outside.{first_outside}
use Rattle.ap_clause.specs.Limit.{is_narrow, passed, clauses_after}
use Rattle.ap_clause.specs.Reads.{Position, Taken, Verdict, Refused, Took, Judges, Outcome, Stopped, Whole, fits}

-- a term whose head and goals can be called, once it isn't too large and has no name from outside
abbrev pub CanBeRule : Source → Tree → ℕ → ℕ → Type 0
CanBeRule source t vars line = vars ≤ MAX_VARIABLES → is_narrow t ≡ true → first_outside source (halves source t) ≡ None → IsRule (rule_of (halves source t) vars line)

-- the rule and the number of clauses with it, or what is too large
abbrev pub LimitedAs : Source → Tree → Rule → ℕ → Result (Rule × ℕ) What → Type 0
LimitedAs source t r before (Ok p) = (passed source t r before ≡ None) × (p.0 ≡ r) × (p.1 ≡ clauses_after source r before)
LimitedAs source t r before (Err what) = passed source t r before ≡ Some what

abbrev pub position : List Text → Counts → Position
position table counts = record { table = table; counts = counts }

abbrev pub taken_of : List Text → Read → Taken
taken_of table r = record { rule = r.rule; names = texts r.names.items; after = position table r.counts }

-- the predicates that were lifted, for whose names the table has room
abbrev pub IsCounted : Counts → Read → List Text → Type 0
IsCounted before r table = (length table + r.counts.lifted ≤ capacity) × (r.counts.lifted ≡ before.lifted + predicates_if r.rule.body)

-- the same of all clauses so far
abbrev pub AreCounted : List Rule → Counts → List Text → Type 0
AreCounted rules counts table = (length table + counts.lifted ≤ capacity) × (counts.lifted ≡ predicates_in rules)

-- a verdict, or want of memory
abbrev pub Gives : (Verdict → Type 0) → List Text → Result Read Refusal → Type 0
Gives J table (Ok r) = J (Took (taken_of table r))
Gives J table (Err e) = (e ≡ refusal.NoMemory) ⊎ J (Refused e)

-- What reading on answers where these pieces are left: the next clause, behind which the others are left; that none is;
-- a refusal; or want of memory.
abbrev pub ReadsOn : Text → List Piece → List Piece → Counts → List Text → List Text → Result (Option Read) Refusal → Type 0
ReadsOn text ps others before old new (Ok (Some r)) = (piece : Piece) × (ps ≡ piece ∷ others) × Judges source.Program text (position old before) piece (Took (taken_of new r))
ReadsOn text ps others before old new (Ok None) = (ps ≡ []) × (new ≡ old)
ReadsOn text ps others before old new (Err e) =
    (e ≡ refusal.NoMemory) ⊎ ((piece : Piece) × (behind : List Piece) × (ps ≡ piece ∷ behind) × Judges source.Program text (position old before) piece (Refused e))

abbrev pub GivesAll : (Outcome → Type 0) → List Text → Result (Vec Rule Global × Counts) Refusal → Type 0
GivesAll J table (Ok p) = J (Whole p.0.items (position table p.1))
GivesAll J table (Err e) = (e ≡ refusal.NoMemory) ⊎ J (Stopped e)

-- the tokens spell a term that fits and isn't too deep, and not too many of their brackets are open
pub record IsSound (source : Source) (ts : List Placed) : Type 0 where
  pub closed : nat_lt MAX_OPEN (most_open 0 ts) ≡ false
  pub front : List Placed
  pub tree : grammar.Tree
  pub spells : Spells ts front tree
  pub fitting : fits source (term_of front tree) ≡ true
  pub shallow : nat_lt MAX_DEPTH (depth (term_of front tree)) ≡ false
