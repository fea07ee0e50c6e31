use Rattle.std.proofs.Common.{refl}
use Rattle.ap_worker.proofs.Staffed.{now-off}
use Rattle.ap_worker.proofs.worker.Worker.tend.Goals as goal

pub obey-requires-clause-off : goal.obey-requires-clause-off
obey-requires-clause-off c = now-off c.args.self.now _ c.in-Some.newest c.in-Some.ensures.items refl c.poll-asked.ensures.posted c.poll-asked.ensures.next c.poll-asked.ensures.jobs c.requires.staffed

pub go_on-requires-clause-off : goal.go_on-requires-clause-off
go_on-requires-clause-off c = now-off c.args.self.now _ c.in-Some.newest c.in-Some.ensures.items refl c.poll-asked.ensures.posted c.poll-asked.ensures.next c.poll-asked.ensures.jobs c.requires.staffed
