use Rattle.std.proofs.Common.{refl}
use Rattle.ap_worker.proofs.Staffed.{off-gone, gone-then, now-gone}
use Rattle.ap_worker.proofs.worker.Worker.go_on.Goals as goal

pub end-requires-clause-off : goal.end-requires-clause-off
end-requires-clause-off c = off-gone c.outcome_law.ensures c.args.self.now _ c.args.newest.stack _ refl refl c.step-step.ensures.goes c.requires.off

pub returns-in-Ok : goal.returns-in-Ok
returns-in-Ok c = record {
  goes = now-gone c.outcome_law.ensures c.args.self.now (record { post = c.step-step.new.post; taken = c.args.self.now.taken; floor = c.args.self.now.floor }) _ c.args.newest.stack (record { stack = c.step-step.new.self; place = c.args.newest.place })
      refl refl c.step-step.ensures.goes c.push_reserved.ensures.items refl refl c.requires.off;
}

pub returns-in-Ok-Answer : goal.returns-in-Ok-Answer
returns-in-Ok-Answer c = record { goes = gone-then c.args.self.now _ _ c.args.newest.stack _ refl c.requires.off c.step-step.ensures.goes c.end.ensures.goes }
