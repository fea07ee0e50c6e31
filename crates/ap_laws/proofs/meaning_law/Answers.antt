use Rattle.ap_laws.proofs.Rejoining.{meaning}
use Rattle.ap_laws.proofs.meaning_law.Goals as goal

pub returns : goal.returns
returns c = meaning
