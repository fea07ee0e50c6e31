use Rattle.std.proofs.Common.{◌≡◌, drop}
use Rattle.std.specs.List.{list_any}
use Rattle.ap_worker.specs.Grouped.{is_grouped}
use Rattle.ap_worker.proofs.groups.any_grouped.Given as goal

abbrev pub invariant-loop-clause : goal.invariant-loop-clause
invariant-loop-clause l = list_any is_grouped (drop l.clause-index l.clauses) ≡ list_any is_grouped l.clauses
