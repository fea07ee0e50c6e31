use Rattle.ap_core.proofs.Rows.{computed}
use Rattle.ap_core.proofs.laws.rows_law.Goals as goal

pub returns : goal.returns
returns c = computed
