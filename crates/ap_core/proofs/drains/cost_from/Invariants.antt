use Rattle.std.proofs.Common.{◌≡◌, ◌-◌, drop}
use Rattle.ap_core.specs.TaskView.{slots_view}
use Rattle.ap_core.specs.Rounds.{cost_from}
use Rattle.ap_core.proofs.drains.cost_from.Given as goal

abbrev pub invariant-loop-x : goal.invariant-loop-x
invariant-loop-x l = record {
  whole : cost_from (l.place - l.j) l.left (slots_view (drop l.x-index l.slots)) ≡ cost_from l.place l.total (slots_view l.slots);
  index : l.j ≡ l.x-index;
}
