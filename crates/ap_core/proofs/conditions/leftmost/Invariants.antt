use Rattle.std.proofs.Common.{◌≡◌, drop}
use Rattle.ap_core.specs.TaskView.{slots_view}
use Rattle.ap_core.specs.Conditions.{leftmost}
use Rattle.ap_core.proofs.conditions.leftmost.Given as goal

abbrev pub invariant-loop-x : goal.invariant-loop-x
invariant-loop-x l = leftmost (slots_view (drop l.x-index l.slots)) ≡ leftmost (slots_view l.slots)
