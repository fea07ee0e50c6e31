use Rattle.std.proofs.Common.{◌≡◌, ◌++◌}
use Rattle.std.specs.List.{flat_map}
use Rattle.ap_conditions.specs.FullCondition.{numbers}
use Rattle.ap_conditions.specs.GoalSets.{indeps_among}
use Rattle.ap_conditions.proofs.conditions.add_indeps.Given as goal

abbrev pub invariant-loop-x : goal.invariant-loop-x
invariant-loop-x l = l.out ≡ l.initial.out ++ flat_map (indeps_among l.sets l.alone) (numbers l.x)
