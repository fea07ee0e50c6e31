use Rattle.std.proofs.lemmas.Nat.{or_lt}
use Rattle.ap_sharing.proofs.var_set.VarSet.union.Goals as goal

pub invariant_of-result : goal.invariant_of-result
invariant_of-result c = (
  or_lt 128 c.self.inside.high c.other.inside.high c.self.invariant.0 c.other.invariant.0,
  or_lt 128 c.self.inside.low c.other.inside.low c.self.invariant.1 c.other.invariant.1,
)
