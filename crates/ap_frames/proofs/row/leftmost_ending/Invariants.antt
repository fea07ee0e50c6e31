use Rattle.std.proofs.Common.{◌≡◌, drop}
use Rattle.ap_frames.specs.Verdicts.{leftmost_ending}
use Rattle.ap_frames.proofs.row.leftmost_ending.Given as goal

abbrev pub invariant-loop-x : goal.invariant-loop-x
invariant-loop-x g l = leftmost_ending (drop l.x-index l.slots) ≡ leftmost_ending l.slots
