use Rattle.ap_machine.specs.View.{IsFor}
use Rattle.ap_engine_tests.proofs.searches.points.Given as goal

abbrev pub invariant-answers : goal.invariant-answers
invariant-answers l = IsFor l.sound l.section
