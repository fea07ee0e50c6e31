use Rattle.ap_section.specs.Ready.{IsReady}
use Rattle.ap_engine_tests.proofs.sections.answers_of.Given as goal

abbrev pub invariant-answers : goal.invariant-answers
invariant-answers l = IsReady l.sound l.section
