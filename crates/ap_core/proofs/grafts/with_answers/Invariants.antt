use Rattle.std.proofs.Common.{◌≡◌, drop}
use Rattle.ap_spec.specs.States.{state_of}
use Rattle.ap_core.specs.TaskView.{slots_view}
use Rattle.ap_core.specs.Relation.{with_answers}
use Rattle.ap_core.proofs.grafts.with_answers.Given as goal

abbrev pub invariant-loop-x : goal.invariant-loop-x
invariant-loop-x l = with_answers (slots_view (drop l.x-index l.slots)) l.b (state_of l.joined) ≡ with_answers (slots_view l.slots) l.b (state_of l.fn.forked)
