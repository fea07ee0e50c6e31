use Rattle.std.proofs.Common.{◌≡◌, ℕ, ◌≤◌, length, take, drop, slice_index_or, false}
use Rattle.ap_needs.specs.Needs.{wants}
use Rattle.ap_needs.proofs.wanting.add_wanting.Given as goal

abbrev pub invariant-places : goal.invariant-places
invariant-places l = record {
  inside : l.place ≤ length l.code.instructions;
  above : l.from ≤ l.place;
  len : length l.table.items ≡ length l.code.instructions;
  same : take l.from l.table.items ≡ l.fn.table.items;
  behind : l.wants ≡ wants (drop l.place l.code.instructions);
  each : (at : ℕ) → l.place ≤ at → slice_index_or l.table.items at false ≡ wants (drop at l.code.instructions);
}

abbrev pub decreases-places : goal.decreases-places
decreases-places l = l.place
