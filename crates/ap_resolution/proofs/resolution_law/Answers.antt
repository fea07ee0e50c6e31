use Rattle.ap_resolution.proofs.Resolution.{resolution}
use Rattle.ap_resolution.proofs.resolution_law.Goals as goal

pub returns : goal.returns
returns c = resolution
