use Rattle.ap_tied.proofs.Resting.{resting}
use Rattle.ap_tied.proofs.settling.resting_law.Goals as goal

pub returns : goal.returns
returns c = resting
