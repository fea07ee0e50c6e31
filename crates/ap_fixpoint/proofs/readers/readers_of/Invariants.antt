use Rattle.std.proofs.Common.{◌≡◌, ◌++◌, drop}
use Rattle.ap_patterns.specs.declared.slots.Slot.{Slot}
use Rattle.ap_fixpoint.specs.Reads.{readers_from}
use Rattle.ap_fixpoint.specs.Numbered.{numbers_of}
use Rattle.ap_fixpoint.proofs.readers.readers_of.Given as goal

abbrev pub invariant-loop-i : goal.invariant-loop-i
invariant-loop-i l = (x : Slot) → numbers_of l.readers x ++ readers_from l.i (drop l.i l.clauses) x ≡ readers_from 0 l.clauses x
