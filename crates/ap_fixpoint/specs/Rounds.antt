-- A round as it is done: what is covered already is left alone, and the other patterns are united one after another.
use Rattle.std.specs.Prelude.{◌≡◌, ℕ, ◌+◌, if◌then◌else◌, List, [], ◌∷◌, ◌++◌, Option, Some, None, slice_get}
use Rattle.ap_absunify.specs.declared.states.State.{State}
use Rattle.ap_patterns.specs.declared.slots.Slot.{Slot}
use Rattle.ap_patterns.specs.declared.slots.Given.{Given}
use Rattle.ap_patterns.specs.Given.{Patterns}
use Rattle.ap_patterns.specs.Covered.{is_covered}
use Rattle.ap_fixpoint.specs.Fix.{same_slot, joined, joined_all, united}

abbrev pub put : Slot → State → Patterns → Patterns
put y s t x = if same_slot y x then s else t x

-- of all that is given, gs, the slot of g
abbrev pub step : List Given → Given → Patterns → Patterns
step gs g t = if is_covered g.pattern (t g.slot) then t else put g.slot (united gs t g.slot) t

abbrev pub steps : List Given → List Given → Patterns → Patterns
steps gs [] t = t
steps gs (g ∷ rest) t = steps gs rest (step gs g t)

-- the slot of g, if its pattern changes
abbrev pub changed_slot : Given → Patterns → List Slot
changed_slot g t = if is_covered g.pattern (t g.slot) then [] else g.slot ∷ []

-- the slots whose patterns change
abbrev pub changed : List Given → List Given → Patterns → List Slot
changed gs [] t = []
changed gs (g ∷ rest) t = changed_slot g t ++ changed gs rest (step gs g t)

-- ---- what is given, by slots

-- the numbers of what is given to the slot; the first has the number n
abbrev pub places_from : ℕ → List Given → Slot → List ℕ
places_from n [] x = []
places_from n (g ∷ gs) x = (if same_slot g.slot x then n ∷ [] else []) ++ places_from (n + 1) gs x

abbrev pub joined_if : State → Option Given → State
joined_if s None = s
joined_if s (Some g) = joined s g.pattern

-- with what is given at these numbers
abbrev pub joined_at : List Given → List ℕ → State → State
joined_at gs [] s = s
joined_at gs (n ∷ ns) s = joined_at gs ns (joined_if s (slice_get gs n))

-- by the numbers of each slot all that is given to it is joined
abbrev pub IsGrouped : List Given → (Slot → List ℕ) → Type 0
IsGrouped gs f = (x : Slot) (s : State) → joined_at gs (f x) s ≡ joined_all x s gs
