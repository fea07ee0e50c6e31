use Rattle.ap_sharing.proofs.Lists.{ascending-join, listed-join}
use Rattle.ap_sharing.proofs.laws.join_law.Goals as goal

pub returns : goal.returns
returns c = record { ascending = ascending-join; members = listed-join }
