use Rattle.std.proofs.Common.{◌≡◌, ℕ, ◌+◌, ◌<◌, ◌≤◌, length}
use Rattle.ap_steps.specs.Moves.{held, HoldPlaces}
use Rattle.ap_machine.proofs.start.put_arguments.Given as goal

abbrev pub invariant-loop-i : goal.invariant-loop-i
invariant-loop-i l = record {
  len : length l.x.items ≡ l.count;
  each : (k : ℕ) → k < l.i → held l.x.items (k + 1) ≡ l.tuple.first + k;
  inside : (n : ℕ) → 0 < n → l.tuple.first + l.tuple.count ≤ n → HoldPlaces n l.x.items;
}
