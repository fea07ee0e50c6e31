use Rattle.ap_sharing.proofs.Words.{both_lt}
use Rattle.ap_sharing.proofs.var_set.VarSet.both.Goals as goal

pub invariant_of-result : goal.invariant_of-result
invariant_of-result c = (
  both_lt c.self.inside.high c.other.inside.high c.self.invariant.0,
  both_lt c.self.inside.low c.other.inside.low c.self.invariant.1,
)
