use Rattle.ap_patterns.proofs.Entering.{enter-covers}
use Rattle.ap_patterns.proofs.laws.enter_law.Goals as goal

pub returns : goal.returns
returns c = enter-covers
