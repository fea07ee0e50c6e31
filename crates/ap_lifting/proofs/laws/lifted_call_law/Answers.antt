use Rattle.ap_lifting.proofs.LiftedCalls.{lifted_call}
use Rattle.ap_lifting.proofs.laws.lifted_call_law.Goals as goal

pub returns : goal.returns
returns c = lifted_call
