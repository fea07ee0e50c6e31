use Rattle.ap_tie.proofs.Open.{opens}
use Rattle.ap_tie.proofs.laws.open_law.Goals as goal

pub returns : goal.returns
returns c = opens
