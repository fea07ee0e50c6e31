use Rattle.ap_goalstack.proofs.Keeping.{starts}
use Rattle.ap_goalstack.proofs.ends.GoalStack.empty.Goals as goal

pub lifo_as-requires : goal.lifo_as-requires
lifo_as-requires g c = starts g.R.Rule.holds c.requires
