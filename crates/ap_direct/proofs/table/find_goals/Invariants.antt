use Rattle.std.proofs.Common.{◌≡◌, ◌≤◌, length}
use Rattle.ap_direct.specs.Table.{AreAsked, AreSameBefore}
use Rattle.ap_direct.proofs.table.find_goals.Given as goal

abbrev pub invariant-places : goal.invariant-places
invariant-places l = record {
  above : l.from ≤ l.place;
  inside : l.place ≤ length l.code.instructions;
  len : length l.goals.items ≡ length l.code.instructions;
  asked : AreAsked l.code l.goals.items;
  before : AreSameBefore l.from l.fn.goals.items l.goals.items;
}

abbrev pub decreases-places : goal.decreases-places
decreases-places l = l.place
