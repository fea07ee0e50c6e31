-- Instructions that lead to the next one leave code open.
use Rattle.std.proofs.Common.{◌≡◌, ℕ, zero, suc, ◌+◌, false, slice_get, Some, subst, arith}
use Rattle.ap_instr.specs.declared.instruction.Instr.{Instr}
use Rattle.ap_instr.specs.Code.{Compiled}
use Rattle.ap_instr.specs.Steps.{steps_from}
use Rattle.ap_instr.specs.Runs.{AsksOpenly}
use Rattle.ap_needs.specs.Needs.{is_transfer}
use Rattle.ap_steps.specs.Ways.{NoneOfControl}
use Rattle.ap_steps.proofs.Places.{plain-transfer}
use Rattle.ap_index.proofs.Openness.{past}

past_all : (code : Compiled) (at n : ℕ) → NoneOfControl code.instructions at n → AsksOpenly (steps_from code at) → AsksOpenly (steps_from code (at + n))
past_all code at zero none o = let q : at ≡ at + 0 = omega arith in subst (λ m. AsksOpenly (steps_from code m)) q o
past_all code at (suc n) none o =
    let last = none n (omega arith) in
    let q : at + n + 1 ≡ at + suc n = omega arith in
    subst (λ m. AsksOpenly (steps_from code m)) q (past code (at + n) last.0 last.1 (plain-transfer last.0 last.2) (past_all code at n (λ k l. none k (omega arith)) o))

-- behind an instruction and its arguments
pub openly-past : (code : Compiled) (at n : ℕ) (i : Instr) → slice_get code.instructions at ≡ Some i → is_transfer i ≡ false → NoneOfControl code.instructions (at + 1) n → AsksOpenly (steps_from code at) → AsksOpenly (steps_from code (at + 1 + n))
openly-past code at n i e goes_on none o = past_all code (at + 1) n none (past code at i e goes_on o)
