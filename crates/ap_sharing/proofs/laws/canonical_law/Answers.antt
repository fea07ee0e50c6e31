use Rattle.ap_sharing.proofs.Elements.{same_set}
use Rattle.ap_sharing.proofs.Lists.{one_list}
use Rattle.ap_sharing.proofs.laws.canonical_law.Goals as goal

pub returns : goal.returns
returns c = record { one_set = same_set; one_list = one_list }
