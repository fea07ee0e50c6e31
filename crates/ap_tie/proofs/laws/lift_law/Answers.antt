use Rattle.ap_tie.proofs.Open.{lift}
use Rattle.ap_tie.proofs.laws.lift_law.Goals as goal

pub returns : goal.returns
returns c = lift
