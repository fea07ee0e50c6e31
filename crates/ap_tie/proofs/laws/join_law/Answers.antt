use Rattle.ap_tie.proofs.Settled.{join}
use Rattle.ap_tie.proofs.laws.join_law.Goals as goal

pub returns : goal.returns
returns c = join
