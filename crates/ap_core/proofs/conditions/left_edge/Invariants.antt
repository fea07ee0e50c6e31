use Rattle.std.proofs.Common.{◌≡◌, ◌≤◌, drop}
use Rattle.ap_core.specs.TaskView.{slots_view}
use Rattle.ap_core.specs.Conditions.{left_edge}
use Rattle.ap_core.proofs.conditions.left_edge.Given as goal

abbrev pub invariant-loop-x : goal.invariant-loop-x
invariant-loop-x l = record {
  whole : left_edge l.rest l.total (slots_view (drop l.x-index l.slots)) ≡ left_edge l.rest 0 (slots_view l.slots);
  within : l.total ≤ l.rest;
}
