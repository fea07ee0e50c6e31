use Rattle.std.proofs.Common.{◌≡◌, ◌++◌, drop}
use Rattle.std.specs.List.{flat_map}
use Rattle.ap_fixpoint.specs.Numbered.{numbers_of}
use Rattle.ap_fixpoint.proofs.readers.numbers_at.Given as goal

abbrev pub invariant-loop-slot : goal.invariant-loop-slot
invariant-loop-slot l = l.numbers.items ++ flat_map (numbers_of l.readers) (drop l.slot-index l.slots) ≡ flat_map (numbers_of l.readers) l.slots
