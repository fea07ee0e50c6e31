use Rattle.ap_fixpoint.proofs.Ending.{a-fix}
use Rattle.ap_fixpoint.proofs.laws.table_law.Goals as goal

pub returns : goal.returns
returns c = a-fix
