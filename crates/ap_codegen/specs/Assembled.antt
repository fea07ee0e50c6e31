-- Code as it is put together: what its tables hold so far, and what it says wherever they hold that.
use Rattle.std.specs.Prelude.{◌≡◌, ℕ, ◌+◌, ◌<◌, ◌≤◌, ◌⊎◌, Bool, true, false, ◌==◌, if◌then◌else◌, ℤ, List, [], ◌∷◌, ◌++◌, length, drop, slice_get, Some}
use Rattle.std.specs.List.{filter, flat_map}
use Rattle.ap_term.specs.Tree.{Tree, atom, node, count_trees}
use Rattle.ap_term.specs.Goals.{Clause, Program}
use Rattle.ap_instr.specs.declared.instruction.Instr.{Instr}
use Rattle.ap_instr.specs.declared.instruction.Instr.TheVariants.{Fail, Try, Retry, Trust}
use Rattle.ap_instr.specs.declared.compiled.Predicate.{Predicate}
use Rattle.ap_instr.specs.Code.{Compiled}
use Rattle.ap_instr.specs.Step.{step_of as said_by}
use Rattle.ap_instr.specs.Groups.{otherwise, rest_of, AsksUnmarked}
use Rattle.ap_instr.specs.Table.{is_key, AreTiled, IsWhole}
use Rattle.ap_instr.specs.Runs.{arguments}
use Rattle.ap_codecheck.specs.Shape.{entry}
use Rattle.ap_codecheck.specs.Paths.{IsPlaceOf}
use Rattle.ap_codecheck.specs.Walk.{Walks, IsLaid}
use Rattle.ap_codecheck.specs.Rules.{InRange, GoesInside, CallsKnown, IsSound}
use Rattle.ap_instr.specs.StandsFor.{ReadsAt, IsOfClauses, IsOfBuiltin, StandsFor}
use Rattle.ap_codegen.specs.CodeOf.{calls_apart}

-- the integers, and the names and arities of predicates, each at its number
pub record Numbered : Type 0 where
  pub integers : List ℤ
  pub predicates : List (ℕ × ℕ)

-- what stands in a list stays at its place
abbrev pub Keeps : {A : Type 0} → List A → List A → Type 0
Keeps {A} old new = (i : ℕ) (x : A) → slice_get old i ≡ Some x → slice_get new i ≡ Some x

pub record Grows (s t : Numbered) : Type 0 where
  pub integers : Keeps s.integers t.integers
  pub predicates : Keeps s.predicates t.predicates

-- code whose tables hold at least this
pub record Holds (t : Numbered) (code : Compiled) : Type 0 where
  pub integers : Keeps t.integers code.integers
  pub predicates : (i : ℕ) (k : ℕ × ℕ) → slice_get t.predicates i ≡ Some k → (q : Predicate) × (slice_get code.predicates i ≡ Some q) × (q.name ≡ k.0) × (q.arity ≡ k.1)

-- the rules that an instruction keeps by itself, in any predicate
abbrev pub IsAlone : Compiled → Instr → Type 0
IsAlone code i = InRange code i × CallsKnown code i × ((p : Predicate) → GoesInside code p i)

abbrev pub AreAlone : Compiled → List Instr → Type 0
AreAlone code [] = Unit {0}
AreAlone code (i ∷ is) = IsAlone code i × AreAlone code is

-- the rules that an instruction keeps by itself, in any predicate that has the places of its clause, from one to before another
abbrev pub IsAloneIn : Compiled → ℕ → ℕ → Instr → Type 0
IsAloneIn code low end i = InRange code i × CallsKnown code i × ((p : Predicate) → ((l : ℕ) → low ≤ l → l < end → IsPlaceOf code p l) → GoesInside code p i)

abbrev pub AreAloneIn : Compiled → ℕ → ℕ → List Instr → Type 0
AreAloneIn code low end [] = Unit {0}
AreAloneIn code low end (i ∷ is) = IsAloneIn code low end i × AreAloneIn code low end is

-- no instruction calls the predicate of built-in goals
abbrev pub AreCallsApart : Compiled → List Instr → Type 0
AreCallsApart code [] = Unit {0}
AreCallsApart code (i ∷ is) = (calls_apart (said_by code i) ≡ true) × AreCallsApart code is

-- each check, and each group, among instructions that stand from a place on leads to the group as a sequence
abbrev pub AreSequences : Compiled → ℕ → List Instr → Type 0
AreSequences code at [] = Unit {0}
AreSequences code at (i ∷ is) = ((l : ℕ) → otherwise i ≡ Some l → AsksUnmarked code (rest_of i at) l) × AreSequences code (at + 1) is

-- Where the instructions stand at the place they read as the clause, and each check leads to its group as a sequence; they call
-- no built-in goals; and they keep the rules of code from the clause's first one on.
pub record AreInstructionsOf (code : Compiled) (at : ℕ) (c : Clause) (is : List Instr) : Type 0 where
  pub reads : (later : List Instr) → drop at code.instructions ≡ is ++ later → ReadsAt code at c
  pub sequences : (later : List Instr) → drop at code.instructions ≡ is ++ later → AreSequences code at is
  pub apart : AreCallsApart code is
  pub walks : (later : List Instr) → Walks code at 0 (is ++ later) (entry (count_trees (arguments c.head)))
  pub alone : AreAloneIn code at (at + length is) is

-- each is its clause's code, one behind another from a place on
abbrev pub AreCoded : Compiled → ℕ → List (List Instr) → List Clause → Type 0
AreCoded code at [] [] = Unit {0}
AreCoded code at (is ∷ bs) (c ∷ cs) = AreInstructionsOf code at c is × AreCoded code (at + length is) bs cs
AreCoded code at _ _ = ⊥

-- where clauses begin that stand one behind another from a place on
abbrev pub places : ℕ → List (List Instr) → List ℕ
places at [] = []
places at (is ∷ bs) = at ∷ places (at + length is) bs

-- what stands behind a `try` for these clauses, the first of which begins at a place
abbrev pub retries : ℕ → List (List Instr) → List Instr
retries at [] = []
retries at (is ∷ []) = Trust at ∷ []
retries at (is ∷ b ∷ bs) = Retry at ∷ retries (at + length is) (b ∷ bs)

-- what stands before the clauses of a predicate
abbrev pub choices : ℕ → List (List Instr) → List Instr
choices at [] = Fail ∷ []
choices at (is ∷ []) = []
choices at (is ∷ b ∷ bs) = Try at ∷ retries (at + length is) (b ∷ bs)

-- how many choice instructions stand before so many clauses, where there are any
abbrev pub chosen : ℕ → ℕ
chosen n = if 1 == n then 0 else n

abbrev pub together : List (List Instr) → List Instr
together bs = flat_map (λ is. is) bs

-- whether a head is of this name and arity
abbrev pub heads : ℕ × ℕ → Tree → Bool
heads k (atom a) = is_key (a, 0) k
heads k (node a ts) = is_key (a, count_trees ts) k
heads k _ = false

abbrev pub clauses_for : ℕ × ℕ → Program → Program
clauses_for k p = filter (λ c. heads k c.head) p

-- the instructions are the predicate's: they read as the program's clauses for it, or are a built-in goal, and are laid out as
-- code has to be
abbrev pub IsStanding : Compiled → Program → Predicate → Type 0
IsStanding code p q = (IsOfClauses code p q ⊎ IsOfBuiltin code q) × IsLaid code q

-- behind other instructions these are those of the predicate of this name and arity, wherever more follow
pub record IsBlock (t : Numbered) (is own : List Instr) (k : ℕ × ℕ) (p : Program) : Type 0 where
  pub stands : (code : Compiled) (later : List Instr) → Holds t code → code.instructions ≡ is ++ (own ++ later)
      → (q : Predicate) → q.name ≡ k.0 → q.arity ≡ k.1 → q.start ≡ length is → q.end ≡ length (is ++ own) → IsStanding code p q
  pub sequences : (code : Compiled) (later : List Instr) → Holds t code → code.instructions ≡ is ++ (own ++ later) → AreSequences code (length is) own
  pub apart : (code : Compiled) → Holds t code → AreCallsApart code own

-- the first predicates of tables are made, wherever the instructions are followed by others
pub record IsMade (t : Numbered) (is : List Instr) (qs : List Predicate) (p : Program) : Type 0 where
  pub named : (n : ℕ) (q : Predicate) → slice_get qs n ≡ Some q → slice_get t.predicates n ≡ Some (q.name, q.arity)
  pub stands : (code : Compiled) (later : List Instr) → Holds t code → code.instructions ≡ is ++ later → (n : ℕ) (q : Predicate) → slice_get qs n ≡ Some q → IsStanding code p q
  pub tiled : AreTiled 0 qs (length is)
  pub sequences : (code : Compiled) (later : List Instr) → Holds t code → code.instructions ≡ is ++ later → AreSequences code 0 is
  pub apart : (code : Compiled) → Holds t code → AreCallsApart code is

-- sound code for clauses, with the query's predicate in its table, which lists those of some of them
pub record StandsBeside (code : Compiled) (k : ℕ × ℕ) (own p : Program) : Type 0 where
  pub number : ℕ
  pub predicate : Predicate
  pub is_query : code.query ≡ Some number
  pub held : slice_get code.predicates number ≡ Some predicate
  pub named : predicate.name ≡ k.0
  pub arity : predicate.arity ≡ k.1
  pub stands : StandsFor code p
  pub whole : IsWhole code own p
  pub sound : IsSound code
