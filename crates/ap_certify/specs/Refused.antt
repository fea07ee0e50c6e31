-- With what right a program is refused, and where. Clauses, and the goals of a clause, count from 1; the goals of a group
-- are goals of their clause. Place 0 is the clause's success. Clause 0 is an entry, and place then its number.
use Rattle.std.specs.Prelude.{◌≡◌, ℕ, ◌+◌, false, ◌⊎◌, if◌then◌else◌, List, [], ◌∷◌, ◌++◌, map, Option, Some, None, slice_get}
use Rattle.std.specs.List.{list_any}
use Rattle.ap_term.specs.declared.clauses.Check.{Check}
use Rattle.ap_term.specs.Tree.{Tree, Trees, none, more, count_trees}
use Rattle.ap_term.specs.Goals.{Part, call, group, Clause, Program}
use Rattle.ap_term.specs.Independence.{IsInFullCondition}
use Rattle.ap_patterns.specs.declared.tables.Predicate.{Predicate}
use Rattle.ap_patterns.specs.declared.slots.Slot.TheVariants.{Call}
use Rattle.ap_patterns.specs.declared.slots.Given.{Given}
use Rattle.ap_patterns.specs.declared.entries.Entries.{Entries}
use Rattle.ap_patterns.specs.declared.entries.Entries.TheVariants.{All, One, Query}
use Rattle.ap_patterns.specs.Table.{predicate_of, same_predicate}
use Rattle.ap_patterns.specs.Given.{Patterns, to_success, any_pattern, given_by_entries}
use Rattle.ap_patterns.specs.Covered.{is_covered}
use Rattle.ap_certify.specs.declared.faults.CertErr.{CertErr}
use Rattle.ap_certify.specs.declared.faults.CertErr.TheVariants.{NotClosed, MissingCheck, NoMemory}
use Rattle.ap_certify.specs.declared.sights.Sight.{Sight}
use Rattle.ap_tracked.specs.Tracked.{IsOneOf}
use Rattle.ap_certify.specs.Written.{is_written}
use Rattle.ap_certify.specs.Sights.{pattern_in, given_in, gives, after, after_part, after_parts, entry}

-- x is number n of the list
abbrev pub IsNumber : {X : Type 0} → ℕ → X → List X → Type 0
IsNumber n x xs = (i : ℕ) × (n ≡ i + 1) × (slice_get xs i ≡ Some x)

-- ---- what is given at a goal of a clause

-- how many goals a part of a body has
abbrev pub goals_of : Part → ℕ
goals_of (call g) = 1
goals_of (group cs gs) = count_trees gs

-- given at goal k, which is goal n
abbrev pub GoalGives : Sight → ℕ → Tree → ℕ → Given → Type 0
GoalGives s n e k g = (k ≡ n) × IsOneOf g (given_in s e)

-- given at goal k, where goals from goal n on are each called from one place
abbrev pub EachGives : Sight → ℕ → Trees → ℕ → Given → Type 0
EachGives s n none k g = ⊥
EachGives s n (more e es) k g = GoalGives s n e k g ⊎ EachGives s (n + 1) es k g

-- the same where they are called one after another
abbrev pub TurnGives : Patterns → Sight → ℕ → Trees → ℕ → Given → Type 0
TurnGives t s n none k g = ⊥
TurnGives t s n (more e es) k g = GoalGives s n e k g ⊎ TurnGives t (after t s e) (n + 1) es k g

-- the goals of a group are called from the fork, and one after another
abbrev pub PartGives : Patterns → Sight → ℕ → Part → ℕ → Given → Type 0
PartGives t s n (call e) k g = GoalGives s n e k g
PartGives t s n (group cs gs) k g = EachGives s n gs k g ⊎ TurnGives t s n gs k g

abbrev pub BodyGives : Patterns → Sight → ℕ → List Part → ℕ → Given → Type 0
BodyGives t s n [] k g = ⊥
BodyGives t s n (p ∷ ps) k g = PartGives t s n p k g ⊎ BodyGives t (after_part t s p) (n + goals_of p) ps k g

-- given by the success of a clause of the head, where s is known at the end of its body
abbrev pub given_at_end : Sight → Tree → List Given
given_at_end s head = to_success (predicate_of head) (pattern_in s head)

-- given at place k of a clause, by its success or by a goal
abbrev pub ClauseGives : Patterns → Clause → ℕ → Given → Type 0
ClauseGives t c k g = ((k ≡ 0) × IsOneOf g (given_at_end (after_parts t (entry t c) c.body) c.head)) ⊎ BodyGives t (entry t c) 1 c.body k g

-- ---- what is given by the entries

abbrev pub with_new : Option Predicate → List Predicate → List Predicate
with_new None ps = ps
with_new (Some p) ps = if list_any (λ q. same_predicate q p) ps then ps else ps ++ p ∷ []

-- the predicates behind others that have a clause, in order of their first clause
abbrev pub predicates_behind : List Predicate → Program → List Predicate
predicates_behind ps [] = ps
predicates_behind ps (c ∷ cs) = predicates_behind (with_new (predicate_of c.head) ps) cs

abbrev pub call_of_any : Predicate → Given
call_of_any p = record { slot = Call p; pattern = any_pattern p.arity }

-- the entries in their order: without a choice, each predicate that has a clause
abbrev pub entry_calls : Entries → Program → List Given
entry_calls All A = map call_of_any (predicates_behind [] A)
entry_calls (One e) A = given_by_entries (One e) A
entry_calls Query A = given_by_entries Query A

-- ---- a program

-- what the definitions give at a place of a clause
abbrev pub IsGivenAt : Entries → Program → Patterns → ℕ → ℕ → Given → Type 0
IsGivenAt E A t i k g = ((i ≡ 0) × IsNumber k g (entry_calls E A)) ⊎ ((c : Clause) × IsNumber i c A × ClauseGives t c k g)

-- it isn't covered by the pattern that it is given to
pub record IsUncoveredAt (E : Entries) (A : Program) (t : Patterns) (clause place : ℕ) (g : Given) : Type 0 where
  pub given : IsGivenAt E A t clause place g
  pub uncovered : is_covered g.pattern (t g.slot) ≡ false

-- ---- checks

-- a check of the full condition that is neither written nor given at the fork
pub record IsLeftOut (s : Sight) (cs : List Check) (gs : Trees) (c : Check) : Type 0 where
  pub full : IsInFullCondition gs c
  pub unwritten : is_written c cs ≡ false
  pub ungiven : gives s c ≡ false

-- left out by a group whose first goal is goal k
abbrev pub PartLeavesOut : Sight → ℕ → Part → ℕ → Check → Type 0
PartLeavesOut s n (call e) k c = ⊥
PartLeavesOut s n (group cs gs) k c = (k ≡ n) × IsLeftOut s cs gs c

abbrev pub BodyLeavesOut : Patterns → Sight → ℕ → List Part → ℕ → Check → Type 0
BodyLeavesOut t s n [] k c = ⊥
BodyLeavesOut t s n (p ∷ ps) k c = PartLeavesOut s n p k c ⊎ BodyLeavesOut t (after_part t s p) (n + goals_of p) ps k c

abbrev pub IsMissingAt : Program → Patterns → ℕ → ℕ → Check → Type 0
IsMissingAt A t i k check = (c : Clause) × IsNumber i c A × BodyLeavesOut t (entry t c) 1 c.body k check

-- ---- refusals

-- an error of clause i: at its places P is given, and Q is left out
abbrev pub IsFault : ℕ → Patterns → (ℕ → Given → Type 0) → (ℕ → Check → Type 0) → CertErr → Type 0
IsFault i t P Q (NotClosed clause place was now) =
    (clause ≡ i) × ((g : Given) × (was ≡ t g.slot) × (now ≡ g.pattern) × P place g × (is_covered g.pattern (t g.slot) ≡ false))
IsFault i t P Q (MissingCheck clause place check) = (clause ≡ i) × Q place check
IsFault i t P Q NoMemory = Unit {0}

abbrev pub NoCheck : ℕ → Check → Type 0
NoCheck k c = ⊥

-- a fault of one clause of a program
abbrev pub IsFaultOfClause : Patterns → Program → CertErr → Type 0
IsFaultOfClause t A e = (i : ℕ) × (c : Clause) × IsNumber i c A × IsFault i t (ClauseGives t c) (BodyLeavesOut t (entry t c) 1 c.body) e

-- a fault where what is given is listed, all at one place
abbrev pub IsOpen : ℕ → ℕ → Patterns → List Given → CertErr → Type 0
IsOpen clause place t gs e = IsFault clause t (λ k g. (k ≡ place) × IsOneOf g gs) NoCheck e

-- a fault of a group whose first goal is goal n
abbrev pub IsLeftOutAt : ℕ → ℕ → Sight → List Check → Trees → CertErr → Type 0
IsLeftOutAt i n s cs gs (NotClosed clause place was now) = ⊥
IsLeftOutAt i n s cs gs (MissingCheck clause place check) = (clause ≡ i) × (place ≡ n) × IsLeftOut s cs gs check
IsLeftOutAt i n s cs gs NoMemory = Unit {0}

-- what an error says is so
abbrev pub IsRefusedBy : Entries → Program → Patterns → CertErr → Type 0
IsRefusedBy E A t (NotClosed clause place was now) = (g : Given) × (was ≡ t g.slot) × (now ≡ g.pattern) × IsUncoveredAt E A t clause place g
IsRefusedBy E A t (MissingCheck clause place check) = IsMissingAt A t clause place check
IsRefusedBy E A t NoMemory = Unit {0}
