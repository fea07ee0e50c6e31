use Rattle.std.proofs.Common.{◌≡◌, ◌++◌, map, take}
use Rattle.ap_term.specs.TermView.{tree_of}
use Rattle.ap_term.specs.Goals.{call}
use Rattle.ap_cge.proofs.plain.add_calls.Given as goal

abbrev pub invariant-loop-goal : goal.invariant-loop-goal
invariant-loop-goal l = l.out ≡ l.initial.out ++ map (λ t. call (tree_of t)) (take l.goal-index l.goals)
