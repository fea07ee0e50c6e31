use Rattle.ap_absunify.proofs.AfterEqual.{after_equal-covers}
use Rattle.ap_absunify.proofs.laws.after_equal_law.Goals as goal

pub returns : goal.returns
returns c = after_equal-covers
