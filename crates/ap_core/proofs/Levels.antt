-- One level of what the values of the code stand for.
use Rattle.std.specs.Prelude.{Box, Vec}
use Rattle.std.proofs.Common.{◌≡◌, ℕ, map, sym, ap, ◌∙◌}
use Rattle.std.specs.declared.alloc.Global.{Global}
use Rattle.ap_spec.specs.declared.states.State.{State}
use Rattle.ap_spec.specs.States.{state_of}
use Rattle.ap_core.specs.declared.tasks.Answer.{Answer}
use Rattle.ap_core.specs.declared.tasks.Busy.{Busy}
use Rattle.ap_core.specs.declared.tasks.Round.{Round}
use Rattle.ap_core.specs.declared.tasks.Slot.{Slot}
use Rattle.ap_core.specs.declared.tasks.Task.{Task}
use Rattle.ap_core.specs.declared.tasks.Alternative.{fold-roll-Alternative}
use Rattle.ap_core.specs.declared.tasks.Alternative.TheVariants as code
use Rattle.ap_core.specs.declared.tasks.Alternative.TheVariants.{rolls-State, rolls-Frame}
use Rattle.ap_core.specs.declared.tasks.Progress.{fold-roll-Progress}
use Rattle.ap_core.specs.declared.tasks.Progress.TheVariants as progress
use Rattle.ap_core.specs.declared.tasks.Progress.TheVariants.{rolls-Drained}
use Rattle.ap_core.specs.declared.tasks.Alternative.TheOpen.{Alternative-F, Progress-F}
use Rattle.ap_core.specs.Tasks as tasks
use Rattle.ap_core.specs.Tasks.{state, frame, drained}
use Rattle.ap_core.specs.TaskView.{Place, answer_of, alternative_level, progress_level, slot_level, task_level, alternative_view, progress_view, slots_view, task_view}

pub view_state : (s : State) → alternative_view (code.State s) ≡ state (state_of s)
view_state s =
    ap alternative_view (sym (rolls-State s)) ∙ fold-roll-Alternative tasks.Alternative tasks.Progress Place tasks.Task alternative_level progress_level slot_level task_level (Alternative-F.State s)

pub view_frame : (s : State) (r : Round) (w : Vec Slot Global) → alternative_view (code.Frame s r w) ≡ frame (state_of s) r (slots_view w.items)
view_frame s r w =
    ap alternative_view (sym (rolls-Frame s r w)) ∙ fold-roll-Alternative tasks.Alternative tasks.Progress Place tasks.Task alternative_level progress_level slot_level task_level (Alternative-F.Frame s r w)

pub view_drained : (m : Vec Answer Global) (b : Busy) (t : Box Task Global) (i e : ℕ) → progress_view (progress.Drained m b t i e) ≡ drained (map answer_of m.items) b (task_view t.value) i e
view_drained m b t i e =
    ap progress_view (sym (rolls-Drained m b t i e)) ∙ fold-roll-Progress tasks.Alternative tasks.Progress Place tasks.Task alternative_level progress_level slot_level task_level (Progress-F.Drained m b t i e)
