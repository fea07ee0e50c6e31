use Rattle.std.proofs.Common.{◌≡◌, ◌≤◌, ◌++◌, map, drop, length}
use Rattle.ap_environments.specs.Kept.{Kept}
use Rattle.ap_machine.specs.Forking.{frame_of}
use Rattle.ap_machine.proofs.group.push_frames.Given as goal

abbrev pub decreases-frames : goal.decreases-frames
decreases-frames l = l.left

abbrev pub invariant-frames : goal.invariant-frames
invariant-frames l = record {
  fewer : l.left ≤ length l.goals;
  environments : ◌≡◌ {A = Kept} l.environments (record l.fn.environments { returns = map frame_of (drop l.left l.goals) ++ l.fn.environments.returns });
}
