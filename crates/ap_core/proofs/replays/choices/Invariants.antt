use Rattle.std.proofs.Common.{◌≡◌, ◌++◌, map, drop}
use Rattle.ap_core.specs.Rounds.{choice_of, choices_of}
use Rattle.ap_core.proofs.replays.choices.Given as goal

abbrev pub invariant-loop-x : goal.invariant-loop-x
invariant-loop-x l = choices_of l.slots ≡ map choice_of l.made.items ++ choices_of (drop l.x-index l.slots)
