use Rattle.std.proofs.Common.{◌≡◌}
use Rattle.ap_codegen.specs.Relocated.{by}
use Rattle.ap_codegen.proofs.LeftNumbers.{IsLeft}
use Rattle.ap_codegen.proofs.relocating.leave_x.Given as goal

abbrev pub invariant-loop-i : goal.invariant-loop-i
invariant-loop-i l = IsLeft l.fn.numbers.items l.numbers.items l.i (λ p n. (by l.y n ≡ 0) × (by l.x n ≡ p))
