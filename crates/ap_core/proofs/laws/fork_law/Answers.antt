use Rattle.ap_core.proofs.ForkConditions.{fork_conditions}
use Rattle.ap_core.proofs.laws.fork_law.Goals as goal

pub returns : goal.returns
returns c = fork_conditions
