use Rattle.std.proofs.Common.{◌≡◌, ◌+◌, ◌^◌, ◌≤◌}
use Rattle.ap_ledger.specs.Counts.{capped}
use Rattle.ap_worker.specs.Totals.{shares_of}
use Rattle.ap_worker.proofs.worker.Worker.release.Given as goal

abbrev pub invariant-loop-taken_goal : goal.invariant-loop-taken_goal
invariant-loop-taken_goal l = record {
  all : capped (l.share + shares_of l.taken_goal-iterator.rest.items) ≡ capped (shares_of l.fn.self.taken.items);
  few : l.share ≤ 2 ^ 64;
}
