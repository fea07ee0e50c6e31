use Rattle.ap_certify.proofs.Strict.{strict}
use Rattle.ap_certify.proofs.laws.strict_law.Goals as goal

pub returns : goal.returns
returns c = strict
