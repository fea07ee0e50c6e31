use Rattle.ap_lifting.proofs.Queries.{meaning}
use Rattle.ap_lifting.proofs.laws.meaning_law.Goals as goal

pub returns : goal.returns
returns c = meaning
