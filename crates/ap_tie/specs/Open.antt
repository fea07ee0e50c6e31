-- Sections that are open: each runs the goal of a slot of the one outside of it.
use Rattle.std.specs.Prelude.{◌≡◌, ℕ, zero, suc, List, [], ◌∷◌, ◌++◌, map, Option, Some, None}
use Rattle.ap_core.specs.declared.events.Kind.{Kind}
use Rattle.ap_core.specs.Tasks as core
use Rattle.ap_core.specs.Tasks.{Task, task, exhausted, alternative, state, frame}
use Rattle.ap_core.specs.Lifting.{running_task, at_end}
use Rattle.ap_core.specs.Relation.{Rules}
use Rattle.ap_tracked.specs.Tracked.{Tracked}
use Rattle.ap_tracked.specs.Forks.{alone}
use Rattle.ap_instr.specs.Code.{Compiled}
use Rattle.ap_tie.specs.Sections.{Section}
use Rattle.ap_tie.specs.Tied.{HoldsTask}

-- where the search of a slot begins: its goal alone
abbrev pub origin_in : ℕ → ℕ → core.Slots → Option Tracked
origin_in i b core.no_slot = None
origin_in zero b (core.slot g k x w) = None
origin_in (suc zero) b (core.slot g k x w) = Some (alone g b)
origin_in (suc (suc i)) b (core.slot g k x w) = origin_in (suc i) b w

-- of a slot of the frame that comes first
abbrev pub origin_of : ℕ → Task → Option Tracked
origin_of i (task r c exhausted) = None
origin_of i (task r c (alternative (state s) l)) = None
origin_of i (task r c (alternative (frame s rd w) l)) = origin_in i s.next w

-- a section, and its slot that the next section runs
abbrev pub Outer : Type 0
Outer = Section × ℕ

abbrev pub places_of : List Outer → List ℕ
places_of outer = map (λ a. a.1) outer

-- The outermost section stands for the task, and each other one for that of the slot that it runs.
abbrev pub StandOpen : Compiled → Rules → Tracked → List Outer → Section → Task → Type 0
StandOpen code p o [] s t = HoldsTask code p o s t
StandOpen code p o (a ∷ outer) s t = HoldsTask code p o a.0 t × ((z : Task) × (running_task a.1 t ≡ Some z) × (n : Tracked) × (origin_of a.1 t ≡ Some n) × StandOpen code p n outer s z)

-- the task of the innermost section is z, one of the search of n
abbrev pub IsInnermost : Tracked → List Outer → Task → Tracked → Task → Type 0
IsInnermost o [] t n z = (n ≡ o) × (z ≡ t)
IsInnermost o (a ∷ outer) t n z = (y : Task) × (running_task a.1 t ≡ Some y) × (m : Tracked) × (origin_of a.1 t ≡ Some m) × IsInnermost m outer y n z

-- An event of a slot's task is one of the section's task at the path through that slot, and the section stands for what it
-- leaves as before, since it holds nothing of a slot that runs.
abbrev pub LiftLaw : Type 0
LiftLaw =
    (code : Compiled) (p : Rules) (o : Tracked) (s : Section) (i : ℕ) (t z y : Task) (k : Kind) (path : List ℕ) → HoldsTask code p o s t → running_task i t ≡ Some z → at_end p k path z ≡ Some y
    → (u : Task) × (at_end p k (i ∷ path) t ≡ Some u) × HoldsTask code p o s u × (running_task i u ≡ Some y) × (origin_of i u ≡ origin_of i t)

-- An event of the innermost section's task is one of the outermost one's, at the path through the slots that run, and the
-- open sections stand for what it leaves.
abbrev pub OpenLaw : Type 0
OpenLaw =
    (code : Compiled) (p : Rules) (o : Tracked) (outer : List Outer) (s w : Section) (t : Task) (k : Kind) (path : List ℕ) → StandOpen code p o outer s t
    → ((n : Tracked) (z : Task) → IsInnermost o outer t n z → HoldsTask code p n s z → (y : Task) × (at_end p k path z ≡ Some y) × HoldsTask code p n w y)
    → (u : Task) × (at_end p k (places_of outer ++ path) t ≡ Some u) × StandOpen code p o outer w u
