use Rattle.ap_certify.proofs.Safe.{safe}
use Rattle.ap_certify.proofs.laws.safe_law.Goals as goal

pub returns : goal.returns
returns c = safe
