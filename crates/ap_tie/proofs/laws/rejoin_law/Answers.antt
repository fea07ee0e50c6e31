use Rattle.ap_tie.proofs.Rejoined.{rejoins}
use Rattle.ap_tie.proofs.laws.rejoin_law.Goals as goal

pub returns : goal.returns
returns c = rejoins
