use Rattle.std.proofs.Common.{◌≡◌, drop}
use Rattle.ap_term.specs.TermView.{trees_of}
use Rattle.ap_core.specs.Passes.{some_calls}
use Rattle.ap_core.proofs.loud.Loud.some_calls.Given as goal

abbrev pub invariant-loop-goal : goal.invariant-loop-goal
invariant-loop-goal l = some_calls l.self (trees_of (drop l.goal-index l.goals)) ≡ some_calls l.self (trees_of l.goals)
