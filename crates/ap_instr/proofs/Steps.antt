-- The steps of code from a place on, by its instruction.
use Rattle.std.proofs.Common.{◌≡◌, ℕ, zero, suc, ◌+◌, List, [], ◌∷◌, drop, slice_get, Some, None, refl, ap, ◌∙◌, arith}
use Rattle.std.proofs.lemmas.List.{drop-drop}
use Rattle.ap_instr.specs.declared.instruction.Instr.{Instr}
use Rattle.ap_instr.specs.Code.{Compiled}
use Rattle.ap_instr.specs.Step.{step_of}
use Rattle.ap_instr.specs.Steps.{skipped, steps_behind, steps_from}
use Rattle.ap_term.proofs.Lists.{drop-here, drop-past}

-- instructions that are passed over are left out
pub behind-passed : (code : Compiled) (at n : ℕ) (is : List Instr) → steps_behind code at n is ≡ steps_behind code (at + n) 0 (drop n is)
behind-passed code at zero is = ap (λ k. steps_behind code k 0 is) (let q : at ≡ at + 0 = omega arith in q)
behind-passed code at (suc n) [] = refl
behind-passed code at (suc n) (i ∷ is) =
    behind-passed code (at + 1) n is ∙ ap (λ k. steps_behind code k 0 (drop n is)) (let q : at + 1 + n ≡ at + suc n = omega arith in q)

behind-from : (code : Compiled) (at n : ℕ) → steps_behind code at n (drop at code.instructions) ≡ steps_from code (at + n)
behind-from code at n = behind-passed code at n (drop at code.instructions) ∙ ap (steps_behind code (at + n) 0) (drop-drop n at code.instructions)

-- an instruction's step, and those from where the code goes on
pub steps_law : (code : Compiled) (at : ℕ) (i : Instr) → slice_get code.instructions at ≡ Some i → steps_from code at ≡ step_of code i ∷ steps_from code (at + 1 + skipped i at)
steps_law code at i e =
    ap (steps_behind code at 0) (drop-here code.instructions at i e) ∙ ap (λ js. step_of code i ∷ js) (behind-from code (at + 1) (skipped i at))

-- behind the last instruction there are none
pub steps-past : (code : Compiled) (at : ℕ) → slice_get code.instructions at ≡ None → steps_from code at ≡ []
steps-past code at e = ap (steps_behind code at 0) (drop-past code.instructions at e)
