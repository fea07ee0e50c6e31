-- The steps of code behind an instruction.
use Rattle.std.proofs.Common.{◌≡◌, ℕ, ◌+◌, false, ◌∷◌, slice_get, Some, refl, ap, ◌∙◌, arith}
use Rattle.ap_instr.specs.declared.instruction.Instr.{Instr}
use Rattle.ap_instr.specs.declared.instruction.Instr.TheVariants.{Jump}
use Rattle.ap_instr.specs.Code.{Compiled}
use Rattle.ap_instr.specs.Step.{step_of}
use Rattle.ap_instr.specs.Steps.{steps_from, skipped}
use Rattle.ap_instr.proofs.Steps.{steps_law}
use Rattle.ap_needs.specs.Needs.{is_transfer}

-- an instruction that leads to the next one
pub steps-next : (code : Compiled) (at : ℕ) (i : Instr) → slice_get code.instructions at ≡ Some i → is_transfer i ≡ false → steps_from code at ≡ step_of code i ∷ steps_from code (at + 1)
steps-next code at i e goes_on =
    steps_law code at i e ∙ ap (λ m. step_of code i ∷ steps_from code m) (let z : skipped i at ≡ 0 = skips-none i goes_on in let q : at + 1 + skipped i at ≡ at + 1 = omega arith in q)
  where
    skips-none : (i : Instr) → is_transfer i ≡ false → skipped i at ≡ 0
    skips-none (Jump l) e = cc
    skips-none i e = refl
