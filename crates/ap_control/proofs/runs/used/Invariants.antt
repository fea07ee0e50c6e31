use Rattle.std.proofs.Common.{◌≡◌, ℕ, ◌≤◌, length}
use Rattle.ap_steps.specs.Moves.{held}
use Rattle.ap_control.proofs.runs.used.Given as goal

abbrev pub decreases-loop-count : goal.decreases-loop-count
decreases-loop-count l = l.count

abbrev pub invariant-loop-count : goal.invariant-loop-count
invariant-loop-count l = record { few : l.count ≤ length l.registers; zeros : (w : ℕ) → l.count ≤ w → held l.registers w ≡ 0 }
