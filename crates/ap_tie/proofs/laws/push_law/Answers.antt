use Rattle.ap_tie.proofs.Grouping.{pushing}
use Rattle.ap_tie.proofs.laws.push_law.Goals as goal

pub returns : goal.returns
returns c = pushing
