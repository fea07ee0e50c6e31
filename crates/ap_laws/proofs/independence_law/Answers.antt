use Rattle.ap_laws.proofs.Conjunctions.{independent}
use Rattle.ap_laws.proofs.independence_law.Goals as goal

pub returns : goal.returns
returns c = independent
