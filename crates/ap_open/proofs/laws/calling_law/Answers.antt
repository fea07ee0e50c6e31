use Rattle.ap_open.proofs.Calling.{calling}
use Rattle.ap_open.proofs.laws.calling_law.Goals as goal

pub returns : goal.returns
returns c = calling c.beginning_law.ensures c.slot_calls_law.ensures c.resting_law.ensures c.settling_law.ensures
