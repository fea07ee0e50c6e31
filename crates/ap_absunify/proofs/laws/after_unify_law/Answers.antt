use Rattle.ap_absunify.proofs.AfterUnify.{after_unify-covers}
use Rattle.ap_absunify.proofs.laws.after_unify_law.Goals as goal

pub returns : goal.returns
returns c = after_unify-covers
