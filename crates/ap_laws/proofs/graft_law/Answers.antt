use Rattle.ap_laws.proofs.Conjunctions.{grafted}
use Rattle.ap_laws.proofs.graft_law.Goals as goal

pub returns : goal.returns
returns c = grafted
