use Rattle.std.proofs.Common.{◌≡◌, ◌<◌, ℕ}
use Rattle.ap_sharing.specs.VarSet.{has}
use Rattle.ap_conditions.proofs.conditions.last_of.Given as goal

abbrev pub invariant-loop-x : goal.invariant-loop-x
invariant-loop-x l = (y : ℕ) → l.x < y → has l.left y ≡ has l.fn.s y
