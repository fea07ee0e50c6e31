use Rattle.ap_tied.proofs.SlotEnds.{stops, gives_back}
use Rattle.ap_tied.proofs.slot_calls.stop_calls_law.Goals as goal

pub returns : goal.returns
returns c = record { stops = stops; gives_back = gives_back }
