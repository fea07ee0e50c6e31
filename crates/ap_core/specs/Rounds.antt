-- What a new round makes of each slot of a frame.
use Rattle.std.specs.Prelude.{ℕ, zero, suc, ◌+◌, ◌-◌, Bool, true, false, if◌then◌else◌, List, [], ◌∷◌, Option, Some, None}
use Rattle.std.specs.declared.cmp.Ordering.{Ordering}
use Rattle.std.specs.declared.cmp.Ordering.TheVariants.{Less, Equal, Greater}
use Rattle.ap_core.specs.Tasks.{Answer, Task, Slots, no_slot, slot, Progress, idle, stored, busy, held, redone, again, drained}
use Rattle.ap_core.specs.declared.tasks.Idle.TheVariants.{Ready, Waiting, GivenBack}
use Rattle.ap_core.specs.declared.tasks.Progress as code
use Rattle.ap_core.specs.declared.tasks.Slot as code_slot
use Rattle.ap_core.specs.TaskView.{Place, progress_view, slot_view}
use Rattle.ap_core.specs.Conditions.{some_has_more}
use Rattle.ap_core.specs.Relation.{kept, restarted_with, put_away, all_put_away, replay_of, cost_of}

abbrev pub changed_place : (Progress → Progress) → Place → Place
changed_place f z = (z.0, z.1, f z.2)

-- by where it stands to the redone slot
abbrev pub settled_place : Ordering → Place → Place
settled_place Less z = changed_place kept z
settled_place Equal z = z
settled_place Greater z = changed_place (put_away z.1) z

-- the place of the rightmost slot that has more, from 0
abbrev pub place_to_redo : Slots → ℕ
place_to_redo no_slot = 0
place_to_redo (slot g k x w) = if some_has_more w then place_to_redo w + 1 else 0

abbrev pub settled_at : ℕ → Slots → Slots
settled_at i no_slot = no_slot
settled_at zero (slot g k x w) = slot g k x (all_put_away w)
settled_at (suc i) (slot g k x w) = slot g k (kept x) (settled_at i w)

abbrev pub answered_by : Bool → List Answer → Answer → Task → ℕ → Progress
answered_by true m a t c = again m a t c
answered_by false m a t c = held m a t c

-- what a sum is without the costs of the slots left of a place, from 0
abbrev pub cost_from : ℕ → ℕ → Slots → ℕ
cost_from i e no_slot = e
cost_from zero e (slot g k x w) = e
cost_from (suc i) e (slot g k x w) = cost_from i (e - cost_of x) w

-- what a slot becomes whose goal begins anew; none where it stays
abbrev pub replay_choice : Progress → Option Progress
replay_choice (idle Ready) = None
replay_choice (idle Waiting) = Some (idle Ready)
replay_choice (idle GivenBack) = None
replay_choice (stored []) = None
replay_choice (stored (a ∷ m)) = Some (replay_of (a ∷ m))
replay_choice (busy b t) = None
replay_choice (held m a t c) = None
replay_choice (redone m b t i) = None
replay_choice (again m a t c) = None
replay_choice (drained m b t i e) = None

abbrev pub choice_of : Option code.Progress → Option Progress
choice_of None = None
choice_of (Some x) = Some (progress_view x)

abbrev pub put_choice : Option Progress → Place → Place
put_choice None z = z
put_choice (Some x) z = (z.0, z.1, x)

abbrev pub put_choices : List (Option Progress) → List Place → List Place
put_choices [] zs = zs
put_choices (o ∷ os) [] = []
put_choices (o ∷ os) (z ∷ zs) = put_choice o z ∷ put_choices os zs

abbrev pub choices_of : List code_slot.Slot → List (Option Progress)
choices_of [] = []
choices_of (x ∷ xs) = replay_choice (slot_view x).2 ∷ choices_of xs
