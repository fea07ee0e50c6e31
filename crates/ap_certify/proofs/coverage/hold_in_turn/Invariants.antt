use Rattle.std.proofs.Common.{◌≡◌, ℕ, IsTrue, drop}
use Rattle.ap_term.specs.TermView.{trees_of}
use Rattle.ap_term.specs.WellFormed.{all_callable, numbered_all}
use Rattle.ap_patterns.specs.declared.slots.Given.{Given}
use Rattle.ap_patterns.specs.Given.{patterns}
use Rattle.ap_certify.specs.Sights.{after_all}
use Rattle.ap_certify.specs.Held.{AreHeldInTurn}
use Rattle.ap_certify.specs.Refused.{TurnGives}
use Rattle.ap_certify.proofs.coverage.hold_in_turn.Given as goal

abbrev pub invariant-loop-goal : goal.invariant-loop-goal
invariant-loop-goal l = record {
  held : AreHeldInTurn (patterns l.table) l.sight (trees_of (drop l.goal-index l.goals)) → AreHeldInTurn (patterns l.table) l.initial.sight (trees_of l.goals);
  after : after_all (patterns l.table) l.sight (trees_of (drop l.goal-index l.goals)) ≡ after_all (patterns l.table) l.initial.sight (trees_of l.goals);
  gives : (m : ℕ) (g : Given) → TurnGives (patterns l.table) l.sight l.number (trees_of (drop l.goal-index l.goals)) m g → TurnGives (patterns l.table) l.initial.sight l.initial.number (trees_of l.goals) m g;
  can_be_called : IsTrue (all_callable (trees_of (drop l.goal-index l.goals)));
  variables : IsTrue (numbered_all 255 (trees_of (drop l.goal-index l.goals)));
}
