-- How a call answers that makes an event.
use Rattle.std.specs.Prelude.{◌≡◌, ℕ, ◌-◌, List, [], ◌∷◌, ◌++◌, Bool, true, false, if◌then◌else◌, Option, Some, None, Result, Ok, Err}
use Rattle.ap_term.specs.Search as search
use Rattle.ap_core.specs.declared.tasks.Round.TheVariants.{Closed}
use Rattle.ap_term.specs.Tree.{Tree}
use Rattle.ap_core.specs.declared.tasks.Idle.TheVariants.{Ready}
use Rattle.ap_core.specs.declared.events.Kind.{Kind}
use Rattle.ap_core.specs.declared.events.Kind.TheVariants as kinds
use Rattle.ap_core.specs.declared.tasks.Busy.{Busy}
use Rattle.ap_core.specs.Tasks.{Answer, Task, Alternatives, exhausted, alternative, state, frame, Progress, idle, stored, busy, held, redone, again, drained}
use Rattle.ap_core.specs.TaskView.{Place}
use Rattle.ap_core.specs.Conditions.{spent_by, is_running}
use Rattle.ap_core.specs.Relation.{Rules, mapped, in_task, in_slot, at_slot, own_slot, start_slot, answer_slot, answer, stand, failing, spending, raising, asked, stopping, stopped_slot}
use Rattle.ap_core.specs.declared.events.StepErr.{StepErr}
use Rattle.ap_core.specs.declared.events.StepErr.TheVariants.{Illegal, NoMemory}

-- `Illegal` where the relation has no case; nothing changes, then or for want of memory
abbrev pub IsRefusal : {A : Type 0} → StepErr → Option A → A → A → Type 0
IsRefusal Illegal next old new = (next ≡ None) × (new ≡ old)
IsRefusal NoMemory next old new = new ≡ old

-- a value that isn't found: `Illegal` where there is none
abbrev pub IsMissing : {A : Type 0} → StepErr → Option A → Type 0
IsMissing Illegal o = o ≡ None
IsMissing NoMemory o = Unit {0}

-- a state before a frame that comes first and whose round is closed
abbrev pub put_before : search.State → Alternatives → Alternatives
put_before j exhausted = exhausted
put_before j (alternative (state s) l) = alternative (state s) l
put_before j (alternative (frame s r w) l) = alternative (state j) (alternative (frame s Closed w) l)

-- the event at or below a slot, whose goal stays
abbrev pub in_place : Rules → Kind → List ℕ → ℕ → ℕ → Place → Option Place
in_place p k path r b z = mapped (λ y. (z.0, y.0, y.1)) (in_slot p k path r b z.0 z.1 z.2)

-- the slot with an answer
abbrev pub with_answer : Answer → Progress → Progress
with_answer a (idle i) = idle i
with_answer a (stored m) = stored m
with_answer a (busy x t) = held [] a t (spent_by t)
with_answer a (held m b t c) = held m b t c
with_answer a (redone m x t i) = again m a t (spent_by t - i)
with_answer a (again m b t c) = again m b t c
with_answer a (drained m x t i e) = drained m x t i e

-- a slot that is ready
abbrev pub ready_place : Tree → Place
ready_place g = (g, true, idle Ready)

-- the event below a slot: it has a task that may go on
abbrev pub below_slot : Rules → Kind → ℕ → List ℕ → Progress → Option Progress
below_slot p k j path (idle i) = None
below_slot p k j path (stored m) = None
below_slot p k j path (busy x t) = if is_running x then mapped (busy x) (in_task p k j path t) else None
below_slot p k j path (held m a t c) = None
below_slot p k j path (redone m x t i) = if is_running x then mapped (λ u. redone m x u i) (in_task p k j path t) else None
below_slot p k j path (again m a t c) = None
below_slot p k j path (drained m x t i e) = if is_running x then mapped (λ u. drained m x u i e) (in_task p k j path t) else None

-- the event at a slot, whose goal stays
abbrev pub at_place : Rules → Kind → ℕ → ℕ → Place → Option Place
at_place p k r b z = mapped (λ y. (z.0, y.0, y.1)) (at_slot p k r b z.0 z.1 z.2)

-- how a slot stands after an event by which it only stands otherwise
abbrev pub changed : Kind → (Tree → Bool) → Busy → Task → Option Busy
changed kinds.Fail loud = failing
changed kinds.Spend loud = spending loud
changed kinds.Raise loud = raising loud
changed kinds.Stop loud = asked
changed kinds.Stopped loud = stopping
changed _ loud = λ x t. None

abbrev pub IsChanged : Bool → Option Busy → Busy → Busy → Type 0
IsChanged true o old new = o ≡ Some new
IsChanged false o old new = (o ≡ None) × (new ≡ old)

-- an event of a slot whose record stays
abbrev pub at_progress : Rules → Kind → ℕ → ℕ → Tree → Progress → Option Progress
at_progress p kinds.Infer r b g x = own_slot p kinds.Infer x
at_progress p kinds.Fork r b g x = own_slot p kinds.Fork x
at_progress p kinds.Start r b g x = start_slot r b g x
at_progress p kinds.Answer r b g x = answer_slot x
at_progress p kinds.Fail r b g x = stand failing x
at_progress p kinds.Spend r b g x = stand (spending p.loud) x
at_progress p kinds.Stop r b g x = stand asked x
at_progress p kinds.Stopped r b g x = stopped_slot x
at_progress p kinds.Join r b g x = own_slot p kinds.Join x
at_progress p kinds.Break r b g x = own_slot p kinds.Break x
at_progress p kinds.Redo r b g x = own_slot p kinds.Redo x
at_progress p kinds.Restart r b g x = own_slot p kinds.Restart x
at_progress p kinds.Raise r b g x = stand (raising p.loud) x
at_progress p kinds.Drain r b g x = own_slot p kinds.Drain x
at_progress p kinds.Forget r b g x = None
at_progress p kinds.Replay r b g x = own_slot p kinds.Replay x

-- the answer of a slot that notes it, and of one that throws it away
abbrev pub noted_answer : Progress → Option Progress
noted_answer (idle i) = None
noted_answer (stored m) = None
noted_answer (busy x t) = answer_slot (busy x t)
noted_answer (held m a t c) = None
noted_answer (redone m x t i) = answer_slot (redone m x t i)
noted_answer (again m a t c) = None
noted_answer (drained m x t i e) = None

abbrev pub thrown_answer : Progress → Option Progress
thrown_answer (idle i) = None
thrown_answer (stored m) = None
thrown_answer (busy x t) = None
thrown_answer (held m a t c) = None
thrown_answer (redone m x t i) = None
thrown_answer (again m a t c) = None
thrown_answer (drained m x t i e) = answer_slot (drained m x t i e)

-- whether a task that may go on has answered, and what its answers are then
abbrev pub Thrown : Bool → Busy → List Answer → Task → List Answer → Task → Type 0
Thrown true x m t l u = (is_running x ≡ true) × ((a : Answer) × (answer t ≡ Some (a, u)) × (l ≡ m ++ a ∷ []))
Thrown false x m t l u = ((if is_running x then answer t else None) ≡ None) × (l ≡ m) × (u ≡ t)
