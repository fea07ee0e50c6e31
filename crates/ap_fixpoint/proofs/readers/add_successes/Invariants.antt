use Rattle.std.proofs.Common.{◌≡◌, ◌++◌, drop}
use Rattle.ap_term.specs.TermView.{trees_of}
use Rattle.ap_fixpoint.specs.Reads.{slots_of_goals}
use Rattle.ap_fixpoint.proofs.readers.add_successes.Given as goal

abbrev pub invariant-loop-goal : goal.invariant-loop-goal
invariant-loop-goal l = l.slots.items ++ slots_of_goals (trees_of (drop l.goal-index l.goals)) ≡ l.initial.slots.items ++ slots_of_goals (trees_of l.goals)
