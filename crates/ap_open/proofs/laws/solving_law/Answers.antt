use Rattle.ap_open.proofs.Solving.{solving}
use Rattle.ap_open.proofs.laws.solving_law.Goals as goal

pub returns : goal.returns
returns c = solving c.beginning_law.ensures c.start_law.ensures c.resting_law.ensures
