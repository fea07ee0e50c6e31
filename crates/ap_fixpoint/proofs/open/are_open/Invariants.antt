use Rattle.std.proofs.Common.{◌≡◌, [], IsTrue, drop}
use Rattle.ap_term.specs.TermView.{trees_of}
use Rattle.ap_term.specs.WellFormed.{all_callable}
use Rattle.ap_absunify.specs.declared.states.State.{State}
use Rattle.ap_patterns.specs.Given.{patterns, given_at_fork, given_in_turn}
use Rattle.ap_fixpoint.specs.Uncovered.{uncovered}
use Rattle.ap_fixpoint.proofs.open.are_open.Given as goal

abbrev pub invariant-loop-goal : goal.invariant-loop-goal
invariant-loop-goal l = record {
  at_fork : ((s : State) → uncovered (patterns l.table) (given_at_fork s (trees_of (drop l.goal-index l.goals))) ≡ []) → (s : State) → uncovered (patterns l.table) (given_at_fork s (trees_of l.goals)) ≡ [];
  in_turn : ((s : State) → uncovered (patterns l.table) (given_in_turn (patterns l.table) s (trees_of (drop l.goal-index l.goals))) ≡ []) → (s : State) → uncovered (patterns l.table) (given_in_turn (patterns l.table) s (trees_of l.goals)) ≡ [];
  callable : IsTrue (all_callable (trees_of (drop l.goal-index l.goals)));
}
