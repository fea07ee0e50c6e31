use Rattle.std.proofs.Common.{◌≡◌, ◌+◌, ◌≤◌, drop, length}
use Rattle.ap_listing.specs.Switch.{open_clauses}
use Rattle.ap_listing.proofs.switch.open_count.Given as goal

abbrev pub invariant-loop-clause : goal.invariant-loop-clause
invariant-loop-clause l = record {
  counted : l.count + length (open_clauses l.code (drop l.clause-index l.places)) ≡ length (open_clauses l.code l.places);
  few : l.count ≤ l.clause-index;
}
