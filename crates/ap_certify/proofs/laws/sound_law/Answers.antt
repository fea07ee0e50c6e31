use Rattle.ap_certify.proofs.Closed.{certified}
use Rattle.ap_certify.proofs.laws.sound_law.Goals as goal

pub returns : goal.returns
returns c = certified
