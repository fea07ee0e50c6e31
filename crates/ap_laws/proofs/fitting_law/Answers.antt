use Rattle.ap_laws.proofs.GroupedGrafts.{fitting}
use Rattle.ap_laws.proofs.fitting_law.Goals as goal

pub returns : goal.returns
returns c = fitting
