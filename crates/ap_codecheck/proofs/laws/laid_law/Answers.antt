use Rattle.ap_codecheck.proofs.Walked.{laid-sound}
use Rattle.ap_codecheck.proofs.laws.laid_law.Goals as goal

pub returns : goal.returns
returns c = laid-sound
