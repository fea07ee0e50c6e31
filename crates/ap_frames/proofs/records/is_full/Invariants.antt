use Rattle.std.proofs.Common.{◌≡◌, ◌+◌, ◌≤◌, drop}
use Rattle.ap_frames.specs.Records.{stored}
use Rattle.ap_frames.proofs.records.is_full.Given as goal

abbrev pub invariant-loop-x : goal.invariant-loop-x
invariant-loop-x g l = record {
  whole : l.total + stored (drop l.x-index l.slots) ≡ stored l.slots;
  within : l.total ≤ 65535;
}
