use Rattle.std.proofs.Common.{◌≡◌, map, length}
use Rattle.ap_term.specs.GoalView.{part_of}
use Rattle.ap_term.specs.Goals.{opened}
use Rattle.ap_spec.proofs.states.first_goal.Given as goal

abbrev pub invariant-loop-first : goal.invariant-loop-first
invariant-loop-first l = opened (map part_of l.left) ≡ opened (map part_of l.parts)

abbrev pub decreases-loop-first : goal.decreases-loop-first
decreases-loop-first l = length l.left
