use Rattle.ap_tie.proofs.Calls.{infer}
use Rattle.ap_tie.proofs.laws.infer_law.Goals as goal

pub returns : goal.returns
returns c = infer
