use Rattle.ap_engine_tests.proofs.sections.answers_of.Goals as goal

pub answers-preserved : goal.answers-preserved
answers-preserved c = c.redo.ensures.ready c.args.sound.now c.driven.ensures.ready
