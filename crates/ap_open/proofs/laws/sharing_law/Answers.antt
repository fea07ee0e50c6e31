use Rattle.ap_open.proofs.Sharing.{sharing}
use Rattle.ap_open.proofs.laws.sharing_law.Goals as goal

pub returns : goal.returns
returns c = sharing c.beginning_law.ensures c.slot_calls_law.ensures c.stop_calls_law.ensures c.resting_law.ensures c.settling_law.ensures
