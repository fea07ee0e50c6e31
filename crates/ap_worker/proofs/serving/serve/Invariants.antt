use Rattle.ap_worker.specs.Workers.{IsStaffed}
use Rattle.ap_worker.proofs.serving.serve.Given as goal

abbrev pub invariant-loop : goal.invariant-loop
invariant-loop g l = IsStaffed l.worker
