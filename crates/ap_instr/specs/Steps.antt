-- The steps of code from a place on. They go on where a jump leads to, which is further on.
use Rattle.std.specs.Prelude.{ℕ, zero, suc, ◌+◌, ◌-◌, Bool, true, false, List, [], ◌∷◌, drop}
use Rattle.ap_instr.specs.declared.instruction.Instr.{Instr}
use Rattle.ap_instr.specs.declared.instruction.Instr.TheVariants.{Jump}
use Rattle.ap_instr.specs.Code.{Compiled}
use Rattle.ap_instr.specs.Step.{Step, step_of}

-- how many instructions stand between one at a place and where the code goes on
abbrev pub skipped : Instr → ℕ → ℕ
skipped (Jump l) at = l - (at + 1)
skipped i at = 0

abbrev pub is_jump : Instr → Bool
is_jump (Jump l) = true
is_jump i = false

-- the steps of instructions that stand from a place on, where the first n of them are passed over
abbrev pub steps_behind : Compiled → ℕ → ℕ → List Instr → List Step
steps_behind code at n [] = []
steps_behind code at (suc n) (i ∷ is) = steps_behind code (at + 1) n is
steps_behind code at zero (i ∷ is) = step_of code i ∷ steps_behind code (at + 1) (skipped i at) is

abbrev pub steps_from : Compiled → ℕ → List Step
steps_from code at = steps_behind code at 0 (drop at code.instructions)
