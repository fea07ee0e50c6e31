use Rattle.ap_laws.proofs.Conjunctions.{split}
use Rattle.ap_laws.proofs.split_law.Goals as goal

pub returns : goal.returns
returns c = split
