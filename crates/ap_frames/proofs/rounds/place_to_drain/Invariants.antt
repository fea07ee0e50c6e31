use Rattle.std.proofs.Common.{◌≡◌, drop}
use Rattle.ap_frames.specs.Slots.{is_loud_with_more}
use Rattle.ap_frames.specs.Verdicts.{rightmost}
use Rattle.ap_frames.proofs.Rightmost.{found_by}
use Rattle.ap_frames.proofs.rounds.place_to_drain.Given as goal

abbrev pub invariant-loop-x : goal.invariant-loop-x
invariant-loop-x g l = record {
  whole : rightmost is_loud_with_more l.slots ≡ found_by l.x-index l.found (rightmost is_loud_with_more (drop l.x-index l.slots));
  index : l.i ≡ l.x-index;
}
