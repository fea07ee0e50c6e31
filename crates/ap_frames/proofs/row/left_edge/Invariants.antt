use Rattle.std.proofs.Common.{◌≡◌, ◌+◌, ◌≤◌, drop}
use Rattle.ap_frames.specs.Verdicts.{left_edge}
use Rattle.ap_frames.proofs.row.left_edge.Given as goal

abbrev pub invariant-loop-x : goal.invariant-loop-x
invariant-loop-x g l = record {
  whole : l.total + left_edge (drop l.x-index l.slots) ≡ left_edge l.slots;
  within : l.total ≤ l.rest;
}
