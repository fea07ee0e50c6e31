-- Jumps, which lead further on.
use Rattle.std.specs.Prelude.{◌≡◌, ℕ, ◌+◌, ◌<◌, length, slice_get, Some}
use Rattle.ap_instr.specs.declared.instruction.Instr.{Instr}
use Rattle.ap_instr.specs.declared.instruction.Instr.TheVariants.{Jump}
use Rattle.ap_instr.specs.Code.{Compiled}
use Rattle.ap_instr.specs.Step.{jump, step_of}
use Rattle.ap_instr.specs.Steps.{skipped}

abbrev pub IsNoJumpAt : Compiled → ℕ → Type 0
IsNoJumpAt code at = (l : ℕ) → slice_get code.instructions at ≡ Some (Jump l) → ⊥

-- a jump stands at the place, and leads to the other one
pub record JumpsTo (code : Compiled) (at to : ℕ) : Type 0 where
  pub instr : Instr
  pub stands : slice_get code.instructions at ≡ Some instr
  pub jumps : step_of code instr ≡ jump
  pub leads : to ≡ at + 1 + skipped instr at
  pub inside : at < length code.instructions
