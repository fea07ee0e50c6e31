use Rattle.ap_certify.proofs.Unrefused.{unrefused}
use Rattle.ap_certify.proofs.laws.unrefused_law.Goals as goal

pub returns : goal.returns
returns c = unrefused
