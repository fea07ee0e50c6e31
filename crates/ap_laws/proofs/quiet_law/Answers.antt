use Rattle.ap_laws.proofs.Quiet.{quiet}
use Rattle.ap_laws.proofs.quiet_law.Goals as goal

pub returns : goal.returns
returns c = quiet
