use Rattle.ap_codecheck.proofs.Stands.{arguments}
use Rattle.ap_codecheck.proofs.laws.arguments_law.Goals as goal

pub returns : goal.returns
returns c = arguments
