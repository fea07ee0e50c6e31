use Rattle.std.proofs.Common.{ℕ, ◌<◌}
use Rattle.ap_codecheck.specs.Judged.{KeepsAllAt}
use Rattle.ap_codecheck.proofs.sound.check_predicates.Given as goal

abbrev pub invariant-loop-number : goal.invariant-loop-number
invariant-loop-number l = (k : ℕ) → k < l.number → KeepsAllAt l.code k
