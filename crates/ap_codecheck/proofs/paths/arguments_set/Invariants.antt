use Rattle.std.proofs.Common.{◌≡◌, ℕ, ◌<◌, true}
use Rattle.ap_instr.specs.declared.instruction.Slot.TheVariants.{X}
use Rattle.ap_codecheck.specs.Shape.{is_set}
use Rattle.ap_codecheck.specs.Held.{shape_of}
use Rattle.ap_codecheck.proofs.paths.arguments_set.Given as goal

abbrev pub invariant-loop-a : goal.invariant-loop-a
invariant-loop-a l = (k : ℕ) → 0 < k → k < l.a → is_set (shape_of l.shape) (X k) ≡ true
