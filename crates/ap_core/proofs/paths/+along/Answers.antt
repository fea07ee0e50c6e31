use Rattle.std.proofs.Common.{arith, ◌-◌, ap, sym, ◌∙◌}
use Rattle.ap_core.specs.Tasks as tasks
use Rattle.ap_core.specs.declared.tasks.Slot.{fold-roll-Slot, fold_out-Slot}
use Rattle.ap_core.specs.TaskView.{Place, alternative_level, progress_level, slot_level, task_level, slot_view, progress_view}
use Rattle.ap_core.specs.CoreView.{rules_of}
use Rattle.ap_core.proofs.SlotEvents.{of_slot_read, of_progress, first_step}
use Rattle.ap_core.proofs.paths.+along.Goals as goal

pub in_slots-returns : goal.in_slots-returns
in_slots-returns t c =
    of_slot_read c.in_slot.result (rules_of c.args.rules.now) c.args.kind c.args.path.now c.args.rest c.args.b c.args.slots.now.items (c.args.place - 1) c.args.place c.in_slot.new.x c.index_mut.result.now c.index_mut.result.now
    c.index_mut.ensures.value (omega arith) (omega arith) c.in_slot.ensures

pub in_slot-returns-in-len1-up : goal.in_slot-returns-in-len1-up
in_slot-returns-in-len1-up t c =
    let e = fold_out-Slot tasks.Alternative tasks.Progress Place tasks.Task alternative_level progress_level slot_level task_level c.args.x.now in
    of_progress c.below_progress.result (rules_of c.args.rules.now) c.args.kind c.args.path.now _ _ c.args.rest c.args.b (slot_view c.args.x.now) _ (progress_view c.args.x.now.progress) (progress_view c.below_progress.new.x)
    (first_step c.args.path.now (omega (arith, c.in-len1-up.len_at_least))) (ap (λ y. ((slot_view c.args.x.now).0, (slot_view c.args.x.now).1, y.2)) e)
    (fold-roll-Slot tasks.Alternative tasks.Progress Place tasks.Task alternative_level progress_level slot_level task_level (record { goal = c.args.x.now.goal; is_kept = c.args.x.now.is_kept; progress = c.below_progress.new.x })
    ∙ ap (λ y. (y.0, y.1, progress_view c.below_progress.new.x)) (sym e)) c.below_progress.ensures
