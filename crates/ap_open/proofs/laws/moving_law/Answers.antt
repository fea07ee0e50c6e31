use Rattle.ap_open.proofs.Moving.{moving}
use Rattle.ap_open.proofs.laws.moving_law.Goals as goal

pub returns : goal.returns
returns c = moving c.slot_calls_law.ensures
