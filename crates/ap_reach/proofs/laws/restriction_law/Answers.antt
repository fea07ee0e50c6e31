use Rattle.ap_reach.proofs.Same.{restriction}
use Rattle.ap_reach.proofs.laws.restriction_law.Goals as goal

pub returns : goal.returns
returns c = restriction
