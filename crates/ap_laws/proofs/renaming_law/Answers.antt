use Rattle.ap_laws.proofs.Names.{renaming}
use Rattle.ap_laws.proofs.renaming_law.Goals as goal

pub returns : goal.returns
returns c = renaming
