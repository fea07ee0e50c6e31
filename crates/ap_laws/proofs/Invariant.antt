-- What every event of a parallel search keeps.
use Rattle.std.proofs.Common.{◌≡◌, ℕ, ◌+◌, ◌-◌, ◌<◌, ◌≤◌, List, [], ◌∷◌, ◌++◌}
use Rattle.ap_term.specs.Tree.{Tree, Trees, none, more, append_trees}
use Rattle.ap_term.specs.Independence.{IsApart, AreApart}
use Rattle.ap_term.specs.Vars.{Local}
use Rattle.ap_laws.specs.Plain.{Plain, state, Ways, IsAnswer, next_of, IsPlainBelow}
use Rattle.ap_laws.specs.Graft.{alone, graft, grafts, IsOf, AreOf, IsDead, IsBarren}
use Rattle.ap_laws.specs.Gives.{Gives}
use Rattle.ap_laws.specs.Tasks.{first, later, closed, Task, task, Alternatives, exhausted, plain, frame, Slots, no_slot, fresh, stored, busy, held, redone, again, drained, flat_task, flat_alternatives, flat_slots, left, slot_goals}
use Rattle.ap_laws.specs.Events.{IsExhausted, IsUntouched, IsUsedUp, resets}

-- ---- the reading that the invariant is about

-- what doesn't go back when a slot gives its goal back: the same reading, as if no goal that began in an open round had begun
abbrev mutual
  pub base : Task → List Plain
  base (task c l) = base_alternatives l

  pub base_alternatives : Alternatives → List Plain
  base_alternatives exhausted = []
  base_alternatives (plain s l) = s ∷ flat_alternatives l
  base_alternatives (frame s first w l) = s ∷ flat_alternatives l
  base_alternatives (frame s later w l) = base_slots w (next_of s) s ++ flat_alternatives l
  base_alternatives (frame s closed w l) = flat_slots w closed (next_of s) s ++ flat_alternatives l

  pub base_slots : Slots → ℕ → Plain → List Plain
  base_slots no_slot b s = []
  base_slots (fresh g w) b s = []
  base_slots (stored g m w) b s = []
  base_slots (busy g t w) b s = []
  base_slots (held g m a t c w) b s = base_slots w b (graft b s a) ++ grafts b s (flat_task t)
  base_slots (redone g m t i w) b s = grafts b s (base t)
  base_slots (again g m a t c w) b s = graft b s a ∷ grafts b s (flat_task t)
  base_slots (drained g m t i e w) b s = []

abbrev mutual
  pub cost : Task → ℕ
  cost (task c l) = c + cost_alternatives l

  pub cost_alternatives : Alternatives → ℕ
  cost_alternatives exhausted = 0
  cost_alternatives (plain s l) = 0
  cost_alternatives (frame s first w l) = 0
  cost_alternatives (frame s later w l) = cost_slots w
  cost_alternatives (frame s closed w l) = 0

  pub cost_slots : Slots → ℕ
  cost_slots no_slot = 0
  cost_slots (fresh g w) = 0
  cost_slots (stored g m w) = 0
  cost_slots (busy g t w) = 0
  cost_slots (held g m a t c w) = c + cost_slots w
  cost_slots (redone g m t i w) = cost t - i
  cost_slots (again g m a t c w) = c
  cost_slots (drained g m t i e w) = 0

-- the frame's goals come first in the forked state, and none has a variable of an earlier one
abbrev pub IsForkOf : Plain → Slots → Type 0
IsForkOf s w = (K : Trees) × (T : Trees) × (n : ℕ) × (k : ℕ) × (s ≡ state (append_trees (slot_goals w) K) T n k) × AreApart (slot_goals w)

-- frames behind the first alternative are closed
abbrev pub IsQuiet : Alternatives → Type 0
IsQuiet exhausted = Unit {0}
IsQuiet (plain s l) = IsQuiet l
IsQuiet (frame s r w l) = (r ≡ closed) × IsQuiet l

-- of a slot's task: its answers so far, what its base has left, and what that cost
abbrev pub HasGiven : Ways → Tree → ℕ → List Plain → Task → Type 0
HasGiven A g b m t = Gives A (alone g b ∷ []) m (base t) (cost t)

-- of a slot that is drained: the goals from it on have led there, whatever stands behind them
abbrev pub HasDrained : Ways → Tree → ℕ → List Plain → ℕ → Trees → Type 0
HasDrained A g b l x gs =
    (K T : Trees) (n k : ℕ) → b ≤ n → IsPlainBelow (state (more g (append_trees gs K)) T n k)
    → Gives A (state (more g (append_trees gs K)) T n k ∷ []) [] (grafts b (state (more g (append_trees gs K)) T n k) l) x

-- the answers of a goal are all of them
abbrev pub IsWhole : Ways → Tree → ℕ → List Plain → Type 0
IsWhole A g b m = AreOf g b m × Gives A (alone g b ∷ []) [] m 0

abbrev pub IsQuietTask : Task → Type 0
IsQuietTask (task c l) = IsQuiet l

-- each goal has an answer at some depth
abbrev pub AreLive : Ways → ℕ → Trees → Type 0
AreLive A b none = Unit {0}
AreLive A b (more g gs) = (IsDead A g b → ⊥) × AreLive A b gs

-- how a closed frame stands: each slot has an answer, or the redone one has failed and those right of it haven't begun
abbrev pub IsShut : Slots → Type 0
IsShut no_slot = Unit {0}
IsShut (fresh g w) = ⊥
IsShut (stored g m w) = ⊥
IsShut (busy g t w) = ⊥
IsShut (held g m a t c w) = IsShut w
IsShut (redone g m t i w) = IsExhausted t × IsUntouched w
IsShut (again g m a t c w) = IsShut w
IsShut (drained g m t i e w) = ⊥

-- in a later round only what is right of an answered redone slot has begun
abbrev pub HasBegun : Slots → Type 0
HasBegun no_slot = Unit {0}
HasBegun (fresh g w) = ⊥
HasBegun (stored g m w) = ⊥
HasBegun (busy g t w) = ⊥
HasBegun (held g m a t c w) = HasBegun w
HasBegun (redone g m t i w) = IsUntouched w
HasBegun (again g m a t c w) = Unit {0}
HasBegun (drained g m t i e w) = ⊥

-- what holds of a task whose goal is g, begun at b; of the slots of a first round and of those right of an answered
-- redone slot (Strong); of a later round's (Pivot); of a closed one's (Weak)
abbrev mutual
  pub TaskInvariant : Ways → Tree → ℕ → Task → Type 0
  TaskInvariant A g b (task c l) = AlternativesInvariant A g b l

  pub AlternativesInvariant : Ways → Tree → ℕ → Alternatives → Type 0
  AlternativesInvariant A g b exhausted = Unit {0}
  AlternativesInvariant A g b (plain s l) = IsOf g b s × IsQuiet l × AlternativesInvariant A g b l
  AlternativesInvariant A g b (frame s first w l) = IsOf g b s × IsForkOf s w × Strong A (next_of s) w × IsQuiet l × AlternativesInvariant A g b l
  AlternativesInvariant A g b (frame s later w l) = IsOf g b s × IsForkOf s w × Pivot A (next_of s) w × IsQuiet l × AlternativesInvariant A g b l × AreLive A (next_of s) (slot_goals w) × HasBegun w
  AlternativesInvariant A g b (frame s closed w l) = IsOf g b s × IsForkOf s w × Weak A (next_of s) w × IsQuiet l × AlternativesInvariant A g b l × AreLive A (next_of s) (slot_goals w) × IsShut w

  pub Strong : Ways → ℕ → Slots → Type 0
  Strong A b no_slot = Unit {0}
  Strong A b (fresh g w) = Local (λ x. x < b) g × Strong A b w
  Strong A b (stored g m w) = Local (λ x. x < b) g × IsWhole A g b m × Strong A b w
  Strong A b (busy g t w) = Local (λ x. x < b) g × TaskInvariant A g b t × Gives A (alone g b ∷ []) [] (base t) (cost t) × Strong A b w
  Strong A b (held g m a t c w) = Local (λ x. x < b) g × TaskInvariant A g b t × IsOf g b a × (IsAnswer a × IsQuietTask t) × Gives A (alone g b ∷ []) [] (a ∷ flat_task t) c × Strong A b w × HasGiven A g b m t
  Strong A b (redone g m t i w) = ⊥
  Strong A b (again g m a t c w) = ⊥
  Strong A b (drained g m t i e w) = Local (λ x. x < b) g × TaskInvariant A g b t × HasGiven A g b m t × (IsApart g (slot_goals w) × IsBarren A b (slot_goals w)) × HasDrained A g b (base t) (e + (cost t - i)) (slot_goals w) × Strong A b w

  pub Pivot : Ways → ℕ → Slots → Type 0
  Pivot A b no_slot = ⊥
  Pivot A b (fresh g w) = ⊥
  Pivot A b (stored g m w) = ⊥
  Pivot A b (busy g t w) = ⊥
  Pivot A b (held g m a t c w) = Local (λ x. x < b) g × TaskInvariant A g b t × IsOf g b a × (IsAnswer a × IsQuietTask t) × Pivot A b w × HasGiven A g b m t
  Pivot A b (redone g m t i w) = Local (λ x. x < b) g × TaskInvariant A g b t × Strong A b w × HasGiven A g b m t
  Pivot A b (again g m a t c w) = Local (λ x. x < b) g × TaskInvariant A g b t × IsOf g b a × (IsAnswer a × IsQuietTask t) × Strong A b w × HasGiven A g b m t
  Pivot A b (drained g m t i e w) = ⊥

  pub Weak : Ways → ℕ → Slots → Type 0
  Weak A b no_slot = Unit {0}
  Weak A b (fresh g w) = Local (λ x. x < b) g × Weak A b w
  Weak A b (stored g m w) = Local (λ x. x < b) g × IsWhole A g b m × Weak A b w
  Weak A b (busy g t w) = Local (λ x. x < b) g × TaskInvariant A g b t × Weak A b w × HasGiven A g b [] t
  Weak A b (held g m a t c w) = Local (λ x. x < b) g × TaskInvariant A g b t × IsOf g b a × (IsAnswer a × IsQuietTask t) × Weak A b w × HasGiven A g b m t
  Weak A b (redone g m t i w) = Local (λ x. x < b) g × TaskInvariant A g b t × Weak A b w × HasGiven A g b m t
  Weak A b (again g m a t c w) = Local (λ x. x < b) g × TaskInvariant A g b t × IsOf g b a × (IsAnswer a × IsQuietTask t) × Weak A b w × HasGiven A g b m t
  Weak A b (drained g m t i e w) = Local (λ x. x < b) g × TaskInvariant A g b t × Weak A b w × HasGiven A g b m t

-- what an event inside a task does
abbrev pub Effect : Ways → Tree → ℕ → Task → Task → Type 0
Effect A g b t u = TaskInvariant A g b u × ((e : ℕ) × Gives A (base t) [] (base u) e × (cost u ≤ cost t + e))

-- some slot has no answer
abbrev pub IsStuck : Slots → Type 0
IsStuck no_slot = ⊥
IsStuck (fresh g w) = Unit {0}
IsStuck (stored g m w) = Unit {0}
IsStuck (busy g t w) = Unit {0}
IsStuck (held g m a t c w) = IsStuck w
IsStuck (redone g m t i w) = Unit {0}
IsStuck (again g m a t c w) = IsStuck w
IsStuck (drained g m t i e w) = Unit {0}

-- the rightmost slot with an alternative is redone
pub data Redo : Slots → Slots → Type 0 where
  redo_held : {g : Tree} {m : List Plain} {a : Plain} {t : Task} {c : ℕ} {w : Slots} → IsUsedUp w → Redo (held g m a t c w) (redone g m t (left t) (resets w))
  redo_again : {g : Tree} {m : List Plain} {a : Plain} {t : Task} {c : ℕ} {w : Slots} → IsUsedUp w → Redo (again g m a t c w) (redone g m t (left t) (resets w))
  past_held : {g : Tree} {m : List Plain} {a : Plain} {t : Task} {c : ℕ} {w v : Slots} → Redo w v → Redo (held g m a t c w) (held g m a t 0 v)
  past_again : {g : Tree} {m : List Plain} {a : Plain} {t : Task} {c : ℕ} {w v : Slots} → Redo w v → Redo (again g m a t c w) (held g m a t 0 v)
