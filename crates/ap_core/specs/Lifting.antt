-- Events of inner tasks, as events of those outside of them.
use Rattle.std.specs.Prelude.{◌≡◌, ℕ, zero, suc, List, [], ◌∷◌, Option, Some, None, if◌then◌else◌}
use Rattle.ap_core.specs.declared.events.Kind.{Kind}
use Rattle.ap_core.specs.Tasks.{Task, task, Alternatives, exhausted, alternative, state, frame, Slots, no_slot, slot, Progress, idle, stored, busy, held, redone, again, drained}
use Rattle.ap_core.specs.Conditions.{is_running, is_open}
use Rattle.ap_core.specs.Relation.{Rules, own, in_task}

-- the task of a slot that may go on
abbrev pub running_of : Progress → Option Task
running_of (idle i) = None
running_of (stored m) = None
running_of (busy b t) = if is_running b then Some t else None
running_of (held m a t c) = None
running_of (redone m b t i) = if is_running b then Some t else None
running_of (again m a t c) = None
running_of (drained m b t i e) = if is_running b then Some t else None

-- of the slot in that place, from 1
abbrev pub running_in : ℕ → Slots → Option Task
running_in i no_slot = None
running_in zero (slot g k x w) = None
running_in (suc zero) (slot g k x w) = running_of x
running_in (suc (suc i)) (slot g k x w) = running_in (suc i) w

-- of the frame that comes first, whose round is open
abbrev pub running_task : ℕ → Task → Option Task
running_task i (task r c exhausted) = None
running_task i (task r c (alternative (state s) l)) = None
running_task i (task r c (alternative (frame s rd w) l)) = if is_open rd then running_in i w else None

-- the event at the end of a path, of a task itself where the path is empty
abbrev pub at_end : Rules → Kind → List ℕ → Task → Option Task
at_end p k [] t = own p k t
at_end p k (i ∷ path) t = in_task p k i path t

-- An event of the task of slot i is an event of the outer task, at the path that goes through that slot; the task after it
-- is then the slot's.
abbrev pub LiftLaw : Type 0
LiftLaw =
    (p : Rules) (k : Kind) (path : List ℕ) (i : ℕ) (t z y : Task) → running_task i t ≡ Some z → at_end p k path z ≡ Some y
    → (u : Task) × (in_task p k i path t ≡ Some u) × (running_task i u ≡ Some y)
