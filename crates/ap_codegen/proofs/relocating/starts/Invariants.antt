use Rattle.std.proofs.Common.{◌≡◌, ℕ, ◌<◌, ◌≤◌, length}
use Rattle.ap_codegen.specs.Relocated.{by}
use Rattle.ap_codegen.proofs.relocating.starts.Given as goal

abbrev pub invariant-loop-n : goal.invariant-loop-n
invariant-loop-n l = record {
  count : length l.numbers.items ≡ l.n;
  same : (p : ℕ) → 0 < by l.numbers.items p → by l.numbers.items p ≡ p;
  low : (p : ℕ) → by l.numbers.items p ≤ l.n;
}
