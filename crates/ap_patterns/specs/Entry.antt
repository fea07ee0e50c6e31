-- Entries: calls whose arguments are marked as ground, as distinct variables that share nothing, or as anything.
use Rattle.std.specs.Prelude.{◌≡◌, ◌≢◌, ℕ, suc, Bool, true, false, nat_eq, if◌then◌else◌, List, [], ◌∷◌, Option, Some, None, length, ◌≤◌}
use Rattle.ap_term.specs.Tree.{Trees, var, count_trees}
use Rattle.ap_term.specs.Vars.{occurs}
use Rattle.ap_term.specs.Independence.{IsGround}
use Rattle.ap_sharing.specs.VarSet.{empty, just, union}
use Rattle.ap_sharing.specs.Sets.{sets_of}
use Rattle.ap_sharing.specs.Share.{norm}
use Rattle.ap_absunify.specs.declared.states.State.{State}
use Rattle.ap_absunify.specs.State.{made}
use Rattle.ap_patterns.specs.declared.entries.Mark.{Mark}
use Rattle.ap_patterns.specs.declared.entries.Mark.TheVariants.{Ground, Free, Any}
use Rattle.ap_patterns.specs.declared.entries.Entries.{Entries}
use Rattle.ap_patterns.specs.declared.entries.Entries.TheVariants.{One}
use Rattle.ap_patterns.specs.Places.{argument}

-- the mark of place j, where the first has place i
abbrev pub mark_at : ℕ → List Mark → ℕ → Option Mark
mark_at i [] j = None
mark_at i (m ∷ ms) j = if nat_eq j i then Some m else mark_at (suc i) ms j

-- the arguments of a query that is as the marks say
pub record AsMarked (marks : List Mark) (args : Trees) : Type 0 where
  pub as_many : count_trees args ≡ length marks
  pub ground : (j : ℕ) → mark_at 1 marks j ≡ Some Ground → IsGround (argument 1 args j)
  pub free : (j : ℕ) → mark_at 1 marks j ≡ Some Free → (v : ℕ) × (argument 1 args j ≡ var v) × ((i : ℕ) → i ≢ j → occurs v (argument 1 args i) ≡ false)

abbrev pub is_free_mark : Mark → Bool
is_free_mark Free = true
is_free_mark _ = false

abbrev pub is_any_mark : Mark → Bool
is_any_mark Any = true
is_any_mark _ = false

-- the places from i on that are marked as free, each alone
abbrev pub free_sets : ℕ → List Mark → List ℕ
free_sets i [] = []
free_sets i (Free ∷ ms) = just i ∷ free_sets (suc i) ms
free_sets i (Ground ∷ ms) = free_sets (suc i) ms
free_sets i (Any ∷ ms) = free_sets (suc i) ms

-- the places from i on that are marked as free
abbrev pub free_marks : ℕ → List Mark → ℕ
free_marks i [] = empty
free_marks i (Free ∷ ms) = union (just i) (free_marks (suc i) ms)
free_marks i (Ground ∷ ms) = free_marks (suc i) ms
free_marks i (Any ∷ ms) = free_marks (suc i) ms

-- the places from i on that are marked as anything
abbrev pub any_marks : ℕ → List Mark → ℕ
any_marks i [] = empty
any_marks i (Any ∷ ms) = union (just i) (any_marks (suc i) ms)
any_marks i (Ground ∷ ms) = any_marks (suc i) ms
any_marks i (Free ∷ ms) = any_marks (suc i) ms

-- what is known of a query that is as the marks say
abbrev pub marked_pattern : List Mark → State
marked_pattern ms = made (norm (record { sets = sets_of (free_sets 1 ms); any = any_marks 1 ms })) (free_marks 1 ms)

-- an entry has a mark for each argument, at most 255
abbrev pub IsMarked : Entries → Type 0
IsMarked (One e) = (length e.marks.items ≡ e.predicate.arity) × (length e.marks.items ≤ 255)
IsMarked _ = Unit {0}
