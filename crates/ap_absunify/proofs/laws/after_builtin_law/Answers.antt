use Rattle.ap_absunify.proofs.AfterBuiltin.{after_builtin-covers}
use Rattle.ap_absunify.proofs.laws.after_builtin_law.Goals as goal

pub returns : goal.returns
returns c = after_builtin-covers
