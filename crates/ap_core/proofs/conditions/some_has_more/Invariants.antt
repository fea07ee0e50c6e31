use Rattle.std.proofs.Common.{◌≡◌, drop}
use Rattle.ap_core.specs.TaskView.{slots_view}
use Rattle.ap_core.specs.Conditions.{some_has_more}
use Rattle.ap_core.proofs.conditions.some_has_more.Given as goal

abbrev pub invariant-loop-x : goal.invariant-loop-x
invariant-loop-x l = some_has_more (slots_view (drop l.x-index l.slots)) ≡ some_has_more (slots_view l.slots)
