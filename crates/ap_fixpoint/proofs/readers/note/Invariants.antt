use Rattle.std.proofs.Common.{◌≡◌, ◌++◌, drop}
use Rattle.ap_patterns.specs.declared.slots.Slot.{Slot}
use Rattle.ap_fixpoint.specs.Reads.{noted}
use Rattle.ap_fixpoint.specs.Numbered.{numbers_of}
use Rattle.ap_fixpoint.proofs.readers.note.Given as goal

abbrev pub invariant-loop-slot : goal.invariant-loop-slot
invariant-loop-slot l = (x : Slot) → numbers_of l.readers x ++ noted l.number (drop l.slot-index l.slots) x ≡ numbers_of l.initial.readers x ++ noted l.number l.slots x
