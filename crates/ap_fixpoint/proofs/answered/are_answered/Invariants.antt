use Rattle.std.proofs.Common.{◌≡◌, drop}
use Rattle.ap_term.specs.TermView.{trees_of}
use Rattle.ap_patterns.specs.Given.{patterns}
use Rattle.ap_fixpoint.specs.Answered.{are_answered}
use Rattle.ap_fixpoint.proofs.answered.are_answered.Given as goal

abbrev pub invariant-loop-goal : goal.invariant-loop-goal
invariant-loop-goal l = are_answered (patterns l.table) (trees_of (drop l.goal-index l.goals)) ≡ are_answered (patterns l.table) (trees_of l.goals)
