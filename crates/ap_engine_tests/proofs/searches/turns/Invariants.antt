use Rattle.ap_machine.specs.View.{IsFor}
use Rattle.ap_engine_tests.proofs.searches.turns.Given as goal

abbrev pub invariant-steps : goal.invariant-steps
invariant-steps l = IsFor l.sound l.section
