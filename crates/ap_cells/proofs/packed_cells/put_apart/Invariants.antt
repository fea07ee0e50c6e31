use Rattle.std.proofs.Common.{◌≡◌, ℕ, ◌+◌, ◌-◌, ◌<◌, ◌≤◌, length, slice_index_or}
use Rattle.std.specs.Vec.{vec_capacity}
use Rattle.ap_cells.proofs.packed_cells.put_apart.Given as goal

abbrev pub invariant-loop-apart : goal.invariant-loop-apart
invariant-loop-apart l = record {
  same : (i : ℕ) → slice_index_or l.apart.items i 0 ≡ slice_index_or l.initial.apart.items i 0;
  len : (n : ℕ) → l.place < n → length l.initial.apart.items ≤ n → length l.apart.items ≤ n;
  capacity : vec_capacity l.apart ≡ vec_capacity l.initial.apart;
}

abbrev pub decreases-loop-apart : goal.decreases-loop-apart
decreases-loop-apart l = l.place + 1 - length l.apart.items
