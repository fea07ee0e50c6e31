use Rattle.std.proofs.Common.{◌≡◌, ◌++◌, drop}
use Rattle.ap_term.specs.TermView.{trees_of}
use Rattle.ap_term.specs.Goals.{calls}
use Rattle.ap_mel.proofs.passes.add_calls.Given as goal

abbrev pub invariant-loop-goal : goal.invariant-loop-goal
invariant-loop-goal l = l.out ++ calls (trees_of (drop l.goal-index l.goals)) ≡ l.initial.out ++ calls (trees_of l.goals)
