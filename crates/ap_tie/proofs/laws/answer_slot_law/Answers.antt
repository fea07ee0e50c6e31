use Rattle.ap_tie.proofs.Answered.{answer_slots}
use Rattle.ap_tie.proofs.laws.answer_slot_law.Goals as goal

pub returns : goal.returns
returns c = answer_slots
