use Rattle.ap_laws.proofs.Conjunctions.{given}
use Rattle.ap_laws.proofs.gives_law.Goals as goal

pub returns : goal.returns
returns c = given
