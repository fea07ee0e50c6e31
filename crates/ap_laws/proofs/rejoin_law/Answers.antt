use Rattle.ap_laws.proofs.Rejoining.{rejoin}
use Rattle.ap_laws.proofs.rejoin_law.Goals as goal

pub returns : goal.returns
returns c = rejoin
