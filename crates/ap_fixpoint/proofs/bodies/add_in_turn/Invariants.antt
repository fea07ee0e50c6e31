use Rattle.std.proofs.Common.{◌≡◌, ◌++◌, IsTrue, drop}
use Rattle.ap_term.specs.TermView.{trees_of}
use Rattle.ap_term.specs.WellFormed.{all_callable, numbered_all}
use Rattle.ap_patterns.specs.Given.{patterns, given_in_turn, after_goals}
use Rattle.ap_fixpoint.specs.Uncovered.{uncovered}
use Rattle.ap_fixpoint.proofs.bodies.add_in_turn.Given as goal

abbrev pub invariant-loop-goal : goal.invariant-loop-goal
invariant-loop-goal l = record {
  whole : l.given.items ++ uncovered (patterns l.table) (given_in_turn (patterns l.table) l.state (trees_of (drop l.goal-index l.goals))) ≡ l.initial.given.items ++ uncovered (patterns l.table) (given_in_turn (patterns l.table) l.initial.state (trees_of l.goals));
  after : after_goals (patterns l.table) l.state (trees_of (drop l.goal-index l.goals)) ≡ after_goals (patterns l.table) l.initial.state (trees_of l.goals);
  callable : IsTrue (all_callable (trees_of (drop l.goal-index l.goals)));
  numbers : IsTrue (numbered_all 255 (trees_of (drop l.goal-index l.goals)));
}
