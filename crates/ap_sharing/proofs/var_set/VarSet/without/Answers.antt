use Rattle.ap_sharing.proofs.Words.{without_lt}
use Rattle.ap_sharing.proofs.var_set.VarSet.without.Goals as goal

pub invariant_of-result : goal.invariant_of-result
invariant_of-result c = (
  without_lt c.self.inside.high c.other.inside.high c.self.invariant.0,
  without_lt c.self.inside.low c.other.inside.low c.self.invariant.1,
)
