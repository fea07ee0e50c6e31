use Rattle.ap_codecheck.proofs.Agree.{unset-law}
use Rattle.ap_codecheck.proofs.laws.unset_law.Goals as goal

pub returns : goal.returns
returns c = unset-law
