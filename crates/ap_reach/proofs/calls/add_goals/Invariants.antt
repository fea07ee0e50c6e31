use Rattle.std.proofs.Common.{take}
use Rattle.std.specs.List.{All}
use Rattle.ap_term.specs.TermView.{tree_of}
use Rattle.ap_reach.specs.Reached.{Extends, IsNamed}
use Rattle.ap_reach.proofs.calls.add_goals.Given as goal

abbrev pub invariant-loop-goal : goal.invariant-loop-goal
invariant-loop-goal l = Extends l.fn.calls l.calls × All (λ t. IsNamed l.program l.calls (tree_of t)) (take l.goal-index l.goals)
