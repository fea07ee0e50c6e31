use Rattle.ap_laws.proofs.GroupedGrafts.{grafted_state}
use Rattle.ap_laws.proofs.graft_state_law.Goals as goal

pub returns : goal.returns
returns c = grafted_state
