use Rattle.std.proofs.Common.{◌≡◌, ◌≤◌, length}
use Rattle.ap_direct.specs.Table.{AreAsked, AreSameBefore}
use Rattle.ap_direct.proofs.table.note_stops.Given as goal

abbrev pub invariant-places : goal.invariant-places
invariant-places l = record {
  inside : l.place ≤ length l.goals.items;
  len : length l.goals.items ≡ length l.stops;
  same : length l.goals.items ≡ length l.fn.goals.items;
  asked : AreAsked l.code l.goals.items;
  before : AreSameBefore l.from l.fn.goals.items l.goals.items;
}

abbrev pub decreases-places : goal.decreases-places
decreases-places l = l.place
