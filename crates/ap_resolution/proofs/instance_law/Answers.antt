use Rattle.ap_resolution.proofs.Variants.{instances}
use Rattle.ap_resolution.proofs.instance_law.Goals as goal

pub returns : goal.returns
returns c = instances
