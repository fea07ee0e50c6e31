use Rattle.std.proofs.Common.{◌≡◌, ◌++◌, drop}
use Rattle.ap_patterns.specs.declared.slots.Slot.{Slot}
use Rattle.ap_fixpoint.specs.Numbered.{numbers_of}
use Rattle.ap_fixpoint.specs.Rounds.{places_from}
use Rattle.ap_fixpoint.proofs.tables.grouped.Given as goal

abbrev pub invariant-loop-i : goal.invariant-loop-i
invariant-loop-i l = (x : Slot) → numbers_of l.groups x ++ places_from l.i (drop l.i l.given) x ≡ places_from 0 l.given x
