use Rattle.ap_laws.proofs.Conjunctions.{query}
use Rattle.ap_laws.proofs.query_law.Goals as goal

pub returns : goal.returns
returns c = query
