use denote.Param.Send.{sendable}
use Rattle.ap_worker.proofs.Crosses.{worker-send}
use Rattle.ap_worker.proofs.serving.serve_all.Goals as goal

pub for_each_mut-requires-send-T : goal.for_each_mut-requires-send-T
for_each_mut-requires-send-T g c κs within = search (sendable, worker-send) depth 10
