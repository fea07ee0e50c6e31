use Rattle.ap_reach.proofs.Same.{same-search}
use Rattle.ap_reach.proofs.laws.same_search_law.Goals as goal

pub returns : goal.returns
returns c = same-search
