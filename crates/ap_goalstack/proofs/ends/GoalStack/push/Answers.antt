use Rattle.ap_goalstack.proofs.Keeping.{pushes}
use Rattle.ap_goalstack.proofs.ends.GoalStack.push.Goals as goal

pub push_as-requires-clause-pushes : goal.push_as-requires-clause-pushes
push_as-requires-clause-pushes g c = pushes g.R.Rule.holds g.R.Rule.keeps.0 _ _ _ c.args.self.now.owns
