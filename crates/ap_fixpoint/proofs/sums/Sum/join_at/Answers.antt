use Rattle.ap_fixpoint.proofs.Grouping.{none-joined}
use Rattle.ap_fixpoint.proofs.sums.Sum.join_at.Goals as goal

pub returns-in-None : goal.returns-in-None
returns-in-None c = none-joined c.args.given.now c.args.number c.args.self.now c.in-None.ensures.lookup.3
