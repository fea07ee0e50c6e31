use Rattle.ap_fixpoint.proofs.Fixing.{fix-closed}
use Rattle.ap_fixpoint.proofs.laws.closed_law.Goals as goal

pub returns : goal.returns
returns c = fix-closed
