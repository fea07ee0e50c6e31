use Rattle.ap_worker.proofs.Staffed.{off-fits}
use Rattle.ap_worker.proofs.worker.Worker.end.Goals as goal

pub finish-requires-clause-fits : goal.finish-requires-clause-fits
finish-requires-clause-fits c = off-fits c.args.self.now c.args.newest.stack c.ended-outcome.result c.requires.off c.ended-outcome.ensures.outcome
