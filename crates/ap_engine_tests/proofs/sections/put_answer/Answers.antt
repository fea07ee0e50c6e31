use Rattle.ap_engine_tests.proofs.sections.put_answer.Goals as goal

pub returns-then-eq : goal.returns-then-eq
returns-then-eq c = c.restart_after.ensures.ready c.args.sound.now (c.put_answer.ensures.ready c.args.sound.now c.requires.ready c.requires.inner)

pub returns-else-eq : goal.returns-else-eq
returns-else-eq c = c.put_answer.ensures.ready c.args.sound.now c.requires.ready c.requires.inner
