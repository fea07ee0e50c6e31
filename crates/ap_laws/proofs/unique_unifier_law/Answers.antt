use Rattle.ap_laws.proofs.Unifiers.{unique}
use Rattle.ap_laws.proofs.unique_unifier_law.Goals as goal

pub returns : goal.returns
returns c = unique
