use Rattle.std.proofs.Common.{◌≡◌, ◌++◌, IsTrue, drop}
use Rattle.ap_term.specs.TermView.{trees_of}
use Rattle.ap_term.specs.WellFormed.{all_callable}
use Rattle.ap_patterns.specs.Given.{patterns, given_by_all}
use Rattle.ap_fixpoint.specs.Uncovered.{uncovered}
use Rattle.ap_fixpoint.proofs.clauses.add_all_anyhow.Given as goal

abbrev pub invariant-loop-goal : goal.invariant-loop-goal
invariant-loop-goal l = record {
  whole : l.given.items ++ uncovered (patterns l.table) (given_by_all l.called (trees_of (drop l.goal-index l.goals))) ≡ l.initial.given.items ++ uncovered (patterns l.table) (given_by_all l.called (trees_of l.goals));
  callable : IsTrue (all_callable (trees_of (drop l.goal-index l.goals)));
}
