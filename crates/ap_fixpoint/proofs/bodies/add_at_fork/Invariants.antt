use Rattle.std.proofs.Common.{◌≡◌, ◌++◌, IsTrue, drop}
use Rattle.ap_term.specs.TermView.{trees_of}
use Rattle.ap_term.specs.WellFormed.{all_callable, numbered_all}
use Rattle.ap_patterns.specs.Given.{patterns, given_at_fork}
use Rattle.ap_fixpoint.specs.Uncovered.{uncovered}
use Rattle.ap_fixpoint.proofs.bodies.add_at_fork.Given as goal

abbrev pub invariant-loop-goal : goal.invariant-loop-goal
invariant-loop-goal l = record {
  whole : l.given.items ++ uncovered (patterns l.table) (given_at_fork l.s (trees_of (drop l.goal-index l.goals))) ≡ l.initial.given.items ++ uncovered (patterns l.table) (given_at_fork l.s (trees_of l.goals));
  callable : IsTrue (all_callable (trees_of (drop l.goal-index l.goals)));
  numbers : IsTrue (numbered_all 255 (trees_of (drop l.goal-index l.goals)));
}
