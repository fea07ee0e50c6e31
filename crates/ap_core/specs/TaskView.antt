-- The tasks that the values of the code stand for.
use Rattle.std.specs.Prelude.{ℕ, Bool, List, [], ◌∷◌, ◌++◌, Option, Some, None, Box, map}
use Rattle.std.specs.declared.alloc.Global.{Global}
use Rattle.ap_term.specs.Tree.{Tree}
use Rattle.ap_term.specs.TermView.{tree_of}
use Rattle.ap_spec.specs.States.{state_of}
use Rattle.ap_core.specs.declared.tasks.Answer.{Answer}
use Rattle.ap_core.specs.declared.tasks.Alternative.{Alternative, fold-Alternative}
use Rattle.ap_core.specs.declared.tasks.Progress.{Progress, fold-Progress}
use Rattle.ap_core.specs.declared.tasks.Slot.{Slot, fold-Slot}
use Rattle.ap_core.specs.declared.tasks.Task.{Task, fold-Task}
use Rattle.ap_core.specs.declared.tasks.Alternative.TheOpen.{Alternative-F, Progress-F, Slot-F, Task-F}
use Rattle.ap_core.specs.Tasks as tasks
use Rattle.ap_core.specs.Tasks.{task, exhausted, alternative, state, frame, no_slot, slot, idle, stored, busy, held, redone, again, drained}

abbrev pub answer_of : Answer → tasks.Answer
answer_of a = record { tuple = a.tuple; next = a.next; steps = a.steps }

-- an answer behind others, where there is one
abbrev pub last_of : Option Answer → List tasks.Answer
last_of None = []
last_of (Some a) = answer_of a ∷ []

-- the alternatives of a stack, on which the last one comes first
abbrev pub stacked : List tasks.Alternative → tasks.Alternatives → tasks.Alternatives
stacked [] l = l
stacked (a ∷ xs) l = stacked xs (alternative a l)

abbrev pub alternatives_of : Option tasks.Alternative → List tasks.Alternative → tasks.Alternatives
alternatives_of None xs = exhausted
alternatives_of (Some a) xs = alternative a (stacked xs exhausted)

-- a slot's goal, whether its answers are kept, its progress
abbrev pub Place : Type 0
Place = Tree × Bool × tasks.Progress

abbrev pub slots_of : List Place → tasks.Slots
slots_of [] = no_slot
slots_of (x ∷ xs) = slot x.0 x.1 x.2 (slots_of xs)

-- ---- one level of each

abbrev pub alternative_level : Alternative-F tasks.Alternative tasks.Progress Place tasks.Task → tasks.Alternative
alternative_level (Alternative-F.State s) = state (state_of s)
alternative_level (Alternative-F.Frame s r w) = frame (state_of s) r (slots_of w.items)

abbrev pub progress_level : Progress-F tasks.Alternative tasks.Progress Place tasks.Task → tasks.Progress
progress_level (Progress-F.Unbegun i) = idle i
progress_level (Progress-F.Stored m o) = stored (map answer_of m.items ++ last_of o)
progress_level (Progress-F.Begun b t) = busy b t.value
progress_level (Progress-F.Answered m a t c) = held (map answer_of m.items) (answer_of a) t.value c
progress_level (Progress-F.Redone m b t i) = redone (map answer_of m.items) b t.value i
progress_level (Progress-F.Again m a t c) = again (map answer_of m.items) (answer_of a) t.value c
progress_level (Progress-F.Drained m b t i e) = drained (map answer_of m.items) b t.value i e

abbrev pub slot_level : Slot-F tasks.Alternative tasks.Progress Place tasks.Task → Place
slot_level x = (tree_of x.goal, x.is_kept, x.progress)

abbrev pub task_level : Task-F tasks.Alternative tasks.Progress Place tasks.Task → tasks.Task
task_level t = task t.rest t.spent (alternatives_of t.first t.behind.items)

-- ---- whole values

abbrev pub alternative_view : Alternative → tasks.Alternative
alternative_view = fold-Alternative tasks.Alternative tasks.Progress Place tasks.Task alternative_level progress_level slot_level task_level

abbrev pub progress_view : Progress → tasks.Progress
progress_view = fold-Progress tasks.Alternative tasks.Progress Place tasks.Task alternative_level progress_level slot_level task_level

abbrev pub slot_view : Slot → Place
slot_view = fold-Slot tasks.Alternative tasks.Progress Place tasks.Task alternative_level progress_level slot_level task_level

abbrev pub task_view : Task → tasks.Task
task_view = fold-Task tasks.Alternative tasks.Progress Place tasks.Task alternative_level progress_level slot_level task_level

abbrev pub slots_view : List Slot → tasks.Slots
slots_view xs = slots_of (map slot_view xs)

abbrev pub choice_view : Option Alternative → Option tasks.Alternative
choice_view None = None
choice_view (Some a) = Some (alternative_view a)

-- the first alternative, and the stack behind it
abbrev pub alternatives_view : Option Alternative → List Alternative → tasks.Alternatives
alternatives_view first behind = alternatives_of (choice_view first) (map alternative_view behind)
