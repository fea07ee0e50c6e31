use Rattle.ap_laws.proofs.Unifiers.{SameState-unifiers}
use Rattle.ap_laws.proofs.child_by_unifier_law.Goals as goal

pub returns : goal.returns
returns c = SameState-unifiers
