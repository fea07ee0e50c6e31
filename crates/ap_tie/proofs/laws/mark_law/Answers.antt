use Rattle.ap_tie.proofs.Grouping.{marking}
use Rattle.ap_tie.proofs.laws.mark_law.Goals as goal

pub returns : goal.returns
returns c = marking
