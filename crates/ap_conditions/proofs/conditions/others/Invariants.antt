use Rattle.std.proofs.Common.{◌≡◌, drop}
use Rattle.ap_sharing.specs.VarSet.{union}
use Rattle.ap_conditions.specs.GoalSets.{others}
use Rattle.ap_conditions.proofs.conditions.others.Given as goal

abbrev pub invariant-loop-s : goal.invariant-loop-s
invariant-loop-s l = union l.found (others (drop l.s-index l.sets) l.x) ≡ others l.sets l.x
