use Rattle.std.proofs.Common.{◌≡◌, ℕ, ◌+◌, ◌<◌, length}
use Rattle.ap_steps.specs.Moves.{held}
use Rattle.ap_machine.proofs.start.put_places.Given as goal

abbrev pub invariant-loop-i : goal.invariant-loop-i
invariant-loop-i l = record { len : length l.places.items ≡ l.i; each : (k : ℕ) → k < l.i → held l.places.items k ≡ l.tuple.first + k }
