use Rattle.ap_absunify.proofs.Known.{ground-known}
use Rattle.ap_absunify.proofs.laws.known_ground_law.Goals as goal

pub returns : goal.returns
returns c = ground-known
