use Rattle.std.proofs.Common.{◌≡◌, ◌+◌, ◌^◌, ◌≤◌}
use Rattle.ap_ledger.specs.Counts.{capped}
use Rattle.ap_worker.specs.Totals.{shares_of, shares_in}
use Rattle.ap_worker.proofs.solving.gathered.Given as goal

abbrev pub invariant-loop-worker : goal.invariant-loop-worker
invariant-loop-worker l = record {
  all : capped (l.share + shares_in l.worker-iterator.rest.items) ≡ capped (l.fn.lead.query.share + shares_of l.fn.lead.worker.taken.items + shares_in l.fn.others.items);
  few : l.share ≤ 2 ^ 64;
}
