use Rattle.std.proofs.Common.{◌≡◌, ◌++◌, drop, map}
use Rattle.std.specs.List.{flat_map}
use Rattle.ap_term.specs.GoalView.{part_of}
use Rattle.ap_fixpoint.specs.Reads.{slots_of_part}
use Rattle.ap_fixpoint.proofs.readers.add_parts.Given as goal

abbrev pub invariant-loop-part : goal.invariant-loop-part
invariant-loop-part l =
    l.slots.items ++ flat_map slots_of_part (map part_of (drop l.part-index l.parts)) ≡ l.initial.slots.items ++ flat_map slots_of_part (map part_of l.parts)
