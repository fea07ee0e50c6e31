use Rattle.std.proofs.Common.{◌≡◌}
use Rattle.ap_frames.specs.Rounds.{reset_by}
use Rattle.ap_frames.proofs.Numbered.{changed}
use Rattle.ap_frames.proofs.rounds.reset_all.Given as goal

abbrev pub invariant-loop-j : goal.invariant-loop-j
invariant-loop-j g l = l.slots.items ≡ changed (reset_by l.i) 1 l.j l.initial.slots.items
