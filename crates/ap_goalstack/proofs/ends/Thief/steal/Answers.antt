use Rattle.ap_goalstack.proofs.Keeping.{takes}
use Rattle.ap_goalstack.proofs.ends.Thief.steal.Goals as goal

pub steal_as-requires-clause-takes : goal.steal_as-requires-clause-takes
steal_as-requires-clause-takes g c = takes g.R.Rule.holds g.R.Rule.keeps.2 _ _ c.args.self.now.steals
