use Rattle.std.proofs.Common.{◌≡◌}
use Rattle.ap_frames.specs.Rounds.{behind}
use Rattle.ap_frames.proofs.Numbered.{changed}
use Rattle.ap_tied.specs.Emptied.{emptied}
use Rattle.ap_section.proofs.emptying.empty_behind.Given as goal

abbrev pub invariant-loop-j : goal.invariant-loop-j
invariant-loop-j l = l.slots.items ≡ changed (behind emptied l.i) 1 l.j l.initial.slots.items
