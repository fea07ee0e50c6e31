use Rattle.ap_machine.specs.View.{IsFor}
use Rattle.ap_engine_tests.proofs.searches.searched.Given as goal

abbrev pub invariant-loop-turn : goal.invariant-loop-turn
invariant-loop-turn l = IsFor l.sound l.section
