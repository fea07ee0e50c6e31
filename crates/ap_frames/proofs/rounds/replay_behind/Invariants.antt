use Rattle.std.proofs.Common.{◌≡◌}
use Rattle.ap_frames.specs.Rounds.{behind, replayed}
use Rattle.ap_frames.proofs.Numbered.{changed}
use Rattle.ap_frames.proofs.rounds.replay_behind.Given as goal

abbrev pub invariant-loop-j : goal.invariant-loop-j
invariant-loop-j g l = l.slots.items ≡ changed (behind replayed l.i) 1 l.j l.initial.slots.items
