use Rattle.ap_goalstack.proofs.Keeping.{pops, finds}
use Rattle.ap_goalstack.proofs.ends.GoalStack.pop.Goals as goal

pub pop_as-requires-clause-lifo : goal.pop_as-requires-clause-lifo
pop_as-requires-clause-lifo g c = λ _. pops g.R.Rule.holds g.R.Rule.keeps.1 _ _ c.args.self.now.owns

pub pop_as-requires-clause-empty : goal.pop_as-requires-clause-empty
pop_as-requires-clause-empty g c = finds g.R.Rule.holds _ _
