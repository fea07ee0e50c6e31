use Rattle.ap_engine_tests.proofs.sections.put.Goals as goal

pub returns-in-Failed : goal.returns-in-Failed
returns-in-Failed c = c.put_failed.ensures.ready c.args.sound.now c.requires.ready

pub returns-in_default : goal.returns-in_default
returns-in_default c = c.put_spent.ensures.ready c.args.sound.now c.requires.ready
