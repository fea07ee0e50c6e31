use Rattle.ap_reach.proofs.Blocks.{block}
use Rattle.ap_reach.proofs.laws.block_law.Goals as goal

pub returns : goal.returns
returns c = block
