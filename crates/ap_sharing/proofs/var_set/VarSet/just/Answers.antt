use Rattle.ap_sharing.proofs.Words.{just_low, just_high}
use Rattle.ap_sharing.proofs.var_set.VarSet.just.Goals as goal

pub returns-then-x-lt128 : goal.returns-then-x-lt128
returns-then-x-lt128 c = just_low c.args.x c.if-x-lt128.true

pub returns-else-x-lt128 : goal.returns-else-x-lt128
returns-else-x-lt128 c = just_high c.args.x c.if-x-lt128.false c.requires
