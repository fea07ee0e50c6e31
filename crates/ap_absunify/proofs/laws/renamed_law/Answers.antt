use Rattle.ap_absunify.proofs.Renamed.{Covers-renamed}
use Rattle.ap_absunify.proofs.laws.renamed_law.Goals as goal

pub returns : goal.returns
returns c = Covers-renamed
