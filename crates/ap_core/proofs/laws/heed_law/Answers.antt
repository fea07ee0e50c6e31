use Rattle.ap_core.proofs.Heeded.{heeds}
use Rattle.ap_core.proofs.laws.heed_law.Goals as goal

pub returns : goal.returns
returns c = heeds
