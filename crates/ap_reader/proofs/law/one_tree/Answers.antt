use Rattle.ap_reader.proofs.Complete.{one}
use Rattle.ap_reader.proofs.law.one_tree.Goals as goal

pub returns : goal.returns
returns c = one
