use Rattle.std.proofs.Common.{◌≡◌, ℕ, ◌<◌, ◌≤◌, false}
use Rattle.ap_sharing.specs.VarSet.{has}
use Rattle.ap_sharing.proofs.var_set.VarSet.next_from.Given as goal

abbrev pub invariant-loop-y : goal.invariant-loop-y
invariant-loop-y l = (z : ℕ) → l.x ≤ z → z < l.y → has l.self z ≡ false
