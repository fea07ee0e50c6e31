use Rattle.ap_tied.proofs.Settled.{settling}
use Rattle.ap_tied.proofs.settling.settling_law.Goals as goal

pub returns : goal.returns
returns c = settling
