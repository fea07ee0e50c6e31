use Rattle.std.proofs.Common.{◌≡◌, ℕ, ◌<◌, slice_index_or, length}
use Rattle.ap_marks.proofs.marks.keep_all.Given as goal

abbrev pub invariant-loop-number : goal.invariant-loop-number
invariant-loop-number l = record {
  inside : (k : ℕ) → k < l.number → slice_index_or l.order k 0 < length l.places.items;
  kept : (k : ℕ) → k < l.number → slice_index_or l.places.items (slice_index_or l.order k 0) 0 ≡ k;
}
