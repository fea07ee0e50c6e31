use Rattle.ap_laws.proofs.SameStates.{same_states}
use Rattle.ap_laws.proofs.same_state_law.Goals as goal

pub returns : goal.returns
returns c = same_states
