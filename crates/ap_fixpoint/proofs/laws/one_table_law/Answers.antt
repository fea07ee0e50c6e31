use Rattle.ap_fixpoint.proofs.Fixing.{one-fix}
use Rattle.ap_fixpoint.proofs.laws.one_table_law.Goals as goal

pub returns : goal.returns
returns c = one-fix
