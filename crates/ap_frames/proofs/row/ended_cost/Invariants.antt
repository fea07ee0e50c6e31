use Rattle.std.proofs.Common.{◌≡◌, drop}
use Rattle.ap_frames.specs.Verdicts.{ended_cost}
use Rattle.ap_frames.proofs.row.ended_cost.Given as goal

abbrev pub invariant-loop-x : goal.invariant-loop-x
invariant-loop-x g l = ended_cost (drop l.x-index l.slots) ≡ ended_cost l.slots
