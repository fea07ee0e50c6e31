use Rattle.ap_laws.proofs.Conjunctions.{traced}
use Rattle.ap_laws.proofs.trace_law.Goals as goal

pub returns : goal.returns
returns c = traced
