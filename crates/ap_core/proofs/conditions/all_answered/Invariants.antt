use Rattle.std.proofs.Common.{◌≡◌, drop}
use Rattle.ap_core.specs.TaskView.{slots_view}
use Rattle.ap_core.specs.Conditions.{all_answered}
use Rattle.ap_core.proofs.conditions.all_answered.Given as goal

abbrev pub invariant-loop-x : goal.invariant-loop-x
invariant-loop-x l = all_answered (slots_view (drop l.x-index l.slots)) ≡ all_answered (slots_view l.slots)
