use Rattle.ap_core.proofs.Lifted.{lifted}
use Rattle.ap_core.proofs.laws.lift_law.Goals as goal

pub returns : goal.returns
returns c = lifted
