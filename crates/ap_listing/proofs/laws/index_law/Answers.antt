use Rattle.ap_listing.proofs.Indexed.{index_leaves}
use Rattle.ap_listing.proofs.laws.index_law.Goals as goal

pub returns : goal.returns
returns c = index_leaves
