use Rattle.std.proofs.Common.{◌≡◌, ℕ, ◌≤◌, length, drop}
use Rattle.ap_needs.specs.Needs.{room}
use Rattle.ap_needs.proofs.cells.most_room.Given as goal

abbrev pub invariant-places : goal.invariant-places
invariant-places l = record {
  inside : l.place ≤ length l.code.instructions;
  behind : l.behind ≡ room (drop l.place l.code.instructions);
  most : (at : ℕ) → l.place ≤ at → room (drop at l.code.instructions) ≤ l.most;
}

abbrev pub decreases-places : goal.decreases-places
decreases-places l = l.place
