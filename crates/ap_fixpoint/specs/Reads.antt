-- On which patterns of a table it turns what a clause gives, and what the clauses give that read one of some slots.
use Rattle.std.specs.Prelude.{◌≡◌, ◌⊎◌, ℕ, ◌+◌, ◌==◌, Bool, true, false, if◌then◌else◌, List, [], ◌∷◌, ◌++◌, Option, Some, None, slice_get}
use Rattle.std.specs.List.{flat_map, list_any}
use Rattle.ap_term.specs.Tree.{Trees, none, more}
use Rattle.ap_term.specs.Goals.{Part, call, group, Clause, Program}
use Rattle.ap_patterns.specs.declared.tables.Predicate.{Predicate}
use Rattle.ap_patterns.specs.declared.slots.Slot.{Slot}
use Rattle.ap_patterns.specs.declared.slots.Slot.TheVariants.{Call, Success}
use Rattle.ap_patterns.specs.declared.slots.Given.{Given}
use Rattle.ap_patterns.specs.Given.{Patterns, given_by_clause}
use Rattle.ap_patterns.specs.Table.{predicate_of}
use Rattle.ap_patterns.specs.Covered.{is_covered}
use Rattle.ap_fixpoint.specs.Fix.{same_slot}
use Rattle.ap_fixpoint.specs.Uncovered.{uncovered}
use Rattle.ap_fixpoint.specs.Members.{Has}

abbrev pub call_slot : Option Predicate → List Slot
call_slot None = []
call_slot (Some p) = Call p ∷ []

abbrev pub success_slot : Option Predicate → List Slot
success_slot None = []
success_slot (Some p) = Success p ∷ []

abbrev pub slots_of_goals : Trees → List Slot
slots_of_goals none = []
slots_of_goals (more g gs) = success_slot (predicate_of g) ++ slots_of_goals gs

abbrev pub slots_of_part : Part → List Slot
slots_of_part (call g) = success_slot (predicate_of g)
slots_of_part (group cs gs) = slots_of_goals gs

-- the calls of a clause's predicate, and the answers of its goals
abbrev pub slots_of : Clause → List Slot
slots_of c = call_slot (predicate_of c.head) ++ flat_map slots_of_part c.body

abbrev pub is_among : Slot → List Slot → Bool
is_among x ys = list_any (λ y. same_slot y x) ys

-- whether a clause reads one of the slots
abbrev pub reads : List Slot → Clause → Bool
reads ys c = list_any (λ x. is_among x ys) (slots_of c)

-- ---- the clauses that read a slot, by their numbers

-- a clause's number, once for each time that the slot is one of these
abbrev pub noted : ℕ → List Slot → Slot → List ℕ
noted n [] x = []
noted n (y ∷ ys) x = (if same_slot y x then n ∷ [] else []) ++ noted n ys x

-- the numbers of the clauses that read the slot; the first clause has the number n
abbrev pub readers_from : ℕ → Program → Slot → List ℕ
readers_from n [] x = []
readers_from n (c ∷ cs) x = noted n (slots_of c) x ++ readers_from (n + 1) cs x

abbrev pub IsIndex : Program → (Slot → List ℕ) → Type 0
IsIndex A f = (x : Slot) → f x ≡ readers_from 0 A x

-- ---- what clauses give that are named by their numbers, as far as the table doesn't cover it

abbrev pub given_if_there : Patterns → Option Clause → List Given
given_if_there t None = []
given_if_there t (Some c) = uncovered t (given_by_clause t c)

abbrev pub given_by_number : Patterns → Program → ℕ → List Given
given_by_number t A n = given_if_there t (slice_get A n)

abbrev pub is_last : Option ℕ → ℕ → Bool
is_last None n = false
is_last (Some m) n = m == n

-- each number that isn't equal to the one before it
abbrev pub once : Option ℕ → List ℕ → List ℕ
once last [] = []
once last (n ∷ ns) = if is_last last n then once last ns else n ∷ once (Some n) ns

abbrev pub given_by_numbers : Patterns → Program → List ℕ → List Given
given_by_numbers t A ns = flat_map (given_by_number t A) (once None ns)

-- nothing but what the clauses give, and all of it that clauses give which read one of the slots, but for what is covered
pub record IsReread (A : Program) (ys : List Slot) (t : Patterns) (gs : List Given) : Type 0 where
  pub only : (g : Given) → Has g gs → Has g (flat_map (given_by_clause t) A)
  pub enough : (c : Clause) → Has c A → reads ys c ≡ true → (g : Given) → Has g (given_by_clause t c) → Has g gs ⊎ (is_covered g.pattern (t g.slot) ≡ true)
