use Rattle.ap_goalstack.proofs.Keeping.{forks}
use Rattle.ap_goalstack.proofs.ends.GoalStack.thief.Goals as goal

pub another-pass-requires : goal.another-pass-requires
another-pass-requires g c = forks g.R.Rule.holds c.requires _ _ c.args.self.now.owns
