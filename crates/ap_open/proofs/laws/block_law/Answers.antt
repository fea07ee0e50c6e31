use Rattle.ap_open.proofs.Blocks.{block}
use Rattle.ap_open.proofs.laws.block_law.Goals as goal

pub returns : goal.returns
returns c = block c.resting_law.ensures c.settling_law.ensures
