use Rattle.ap_mel.proofs.Ending.{one-made}
use Rattle.ap_mel.proofs.laws.one_made_law.Goals as goal

pub returns : goal.returns
returns c = one-made
