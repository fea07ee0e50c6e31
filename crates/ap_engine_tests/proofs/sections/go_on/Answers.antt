use Rattle.ap_section.specs.Views.{view_of}
use Rattle.ap_engine_tests.proofs.Driven.{answer-closed, fork-framed}
use Rattle.ap_engine_tests.proofs.sections.go_on.Goals as goal

pub returns-clause-answer : goal.returns-clause-answer
returns-clause-answer c = answer-closed c.args.sound.now 1000 (view_of c.args.section.now) (view_of c.advance.new.self) c.advance.result c.advance.ensures.end

pub returns-clause-fork : goal.returns-clause-fork
returns-clause-fork c = fork-framed c.args.sound.now 1000 (view_of c.args.section.now) (view_of c.advance.new.self) c.advance.result c.advance.ensures.end
