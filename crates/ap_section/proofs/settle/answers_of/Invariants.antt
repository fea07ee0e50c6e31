use Rattle.std.proofs.Common.{take}
use Rattle.ap_section.specs.Closes.{AreSlotAnswers}
use Rattle.ap_section.proofs.settle.answers_of.Given as goal

abbrev pub invariant-loop-slot : goal.invariant-loop-slot
invariant-loop-slot l = AreSlotAnswers (take l.slot-index l.slots) l.answers.items
