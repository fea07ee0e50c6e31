use Rattle.std.proofs.Common.{◌≡◌, ◌≤◌, length, take}
use Rattle.ap_frames.specs.Verdicts.{rightmost}
use Rattle.ap_section.specs.Slots.{is_ready}
use Rattle.ap_section.proofs.slots.last_ready.Given as goal

abbrev pub invariant-loop-i : goal.invariant-loop-i
invariant-loop-i l = record {
  within : l.i ≤ length l.slots;
  whole : rightmost is_ready l.slots ≡ rightmost is_ready (take l.i l.slots);
}

abbrev pub decreases-loop-i : goal.decreases-loop-i
decreases-loop-i l = l.i
