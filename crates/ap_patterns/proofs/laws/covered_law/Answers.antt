use Rattle.ap_patterns.proofs.Coverings.{covered-covers}
use Rattle.ap_patterns.proofs.laws.covered_law.Goals as goal

pub returns : goal.returns
returns c = covered-covers
