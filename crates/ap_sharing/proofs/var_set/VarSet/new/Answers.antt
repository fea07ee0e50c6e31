use Rattle.std.proofs.Common.{refl}
use Rattle.ap_sharing.specs.VarSet.{empty}
use Rattle.ap_sharing.proofs.var_set.VarSet.new.Goals as goal

pub returns : goal.returns
unfolding empty
returns c = refl
