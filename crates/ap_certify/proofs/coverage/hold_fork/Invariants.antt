use Rattle.std.proofs.Common.{ℕ, IsTrue, drop}
use Rattle.ap_term.specs.TermView.{trees_of}
use Rattle.ap_term.specs.WellFormed.{all_callable, numbered_all}
use Rattle.ap_patterns.specs.declared.slots.Given.{Given}
use Rattle.ap_patterns.specs.Given.{patterns}
use Rattle.ap_certify.specs.Held.{AreHeldAtFork}
use Rattle.ap_certify.specs.Refused.{EachGives}
use Rattle.ap_certify.proofs.coverage.hold_fork.Given as goal

abbrev pub invariant-loop-goal : goal.invariant-loop-goal
invariant-loop-goal l = record {
  held : AreHeldAtFork (patterns l.table) l.s (trees_of (drop l.goal-index l.goals)) → AreHeldAtFork (patterns l.table) l.s (trees_of l.goals);
  gives : (m : ℕ) (g : Given) → EachGives l.s l.number (trees_of (drop l.goal-index l.goals)) m g → EachGives l.s l.initial.number (trees_of l.goals) m g;
  can_be_called : IsTrue (all_callable (trees_of (drop l.goal-index l.goals)));
  variables : IsTrue (numbered_all 255 (trees_of (drop l.goal-index l.goals)));
}
