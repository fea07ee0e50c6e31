use Rattle.std.proofs.Common.{◌-◌, ◌+◌, ◌≡◌, ap, sym, ◌∙◌, arith}
use Rattle.std.proofs.lemmas.Result.{on_ok_weaker}
use Rattle.ap_core.specs.TaskView.{slots_view}
use Rattle.ap_core.specs.Rounds.{cost_from}
use Rattle.ap_core.proofs.DrainedSlots.{drained_at-place}
use Rattle.ap_core.proofs.drains.drain_at.Goals as goal

pub returns-clause-made : goal.returns-clause-made
returns-clause-made c =
    on_ok_weaker c.drain_slot.result
    (λ q. drained_at-place c.args.rest c.args.total (c.args.place - 1) c.args.place c.args.slots.now.items c.drain_slot.new.x c.index_mut.result.now c.cost_from-cost.result (omega arith) (omega arith) c.index_mut.ensures.value (c.cost_from-cost.ensures ∙ ap (λ xs. cost_from (c.args.place - 1) c.args.total (slots_view xs)) c.deref.ensures.value) q)
    c.drain_slot.ensures.made
