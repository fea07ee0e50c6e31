use Rattle.std.proofs.Common.{◌≡◌, ◌++◌, IsTrue, drop}
use Rattle.ap_term.specs.TermView.{trees_of}
use Rattle.ap_term.specs.WellFormed.{numbered_all}
use Rattle.ap_conditions.specs.GoalSets.{goal_sets}
use Rattle.ap_conditions.proofs.conditions.goal_sets.Given as goal

abbrev pub invariant-loop-goal : goal.invariant-loop-goal
invariant-loop-goal l = record {
  whole : l.sets.items ++ goal_sets (trees_of (drop l.goal-index l.goals)) ≡ goal_sets (trees_of l.goals);
  numbers : IsTrue (numbered_all 255 (trees_of (drop l.goal-index l.goals)));
}
