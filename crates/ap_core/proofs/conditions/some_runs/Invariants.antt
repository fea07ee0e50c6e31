use Rattle.std.proofs.Common.{◌≡◌, drop}
use Rattle.ap_core.specs.TaskView.{slots_view}
use Rattle.ap_core.specs.Conditions.{some_runs}
use Rattle.ap_core.proofs.conditions.some_runs.Given as goal

abbrev pub invariant-loop-x : goal.invariant-loop-x
invariant-loop-x l = some_runs (slots_view (drop l.x-index l.slots)) ≡ some_runs (slots_view l.slots)
