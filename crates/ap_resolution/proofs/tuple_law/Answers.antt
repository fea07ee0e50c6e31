use Rattle.ap_resolution.proofs.Variants.{tuples}
use Rattle.ap_resolution.proofs.tuple_law.Goals as goal

pub returns : goal.returns
returns c = tuples
