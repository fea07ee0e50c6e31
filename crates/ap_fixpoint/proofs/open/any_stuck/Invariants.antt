use Rattle.std.proofs.Common.{◌≡◌, drop}
use Rattle.ap_term.specs.TermView.{trees_of}
use Rattle.ap_absunify.specs.declared.states.State.{State}
use Rattle.ap_absunify.specs.declared.states.State.TheVariants.{Unreachable}
use Rattle.ap_patterns.specs.Given.{patterns, after_goals}
use Rattle.ap_fixpoint.proofs.open.any_stuck.Given as goal

abbrev pub invariant-loop-goal : goal.invariant-loop-goal
invariant-loop-goal l =
    ((s : State) → after_goals (patterns l.table) s (trees_of (drop l.goal-index l.goals)) ≡ Unreachable) → (s : State) → after_goals (patterns l.table) s (trees_of l.goals) ≡ Unreachable
