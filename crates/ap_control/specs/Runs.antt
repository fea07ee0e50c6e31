-- A run of instructions up to one that leads elsewhere than to the one behind it.
use Rattle.std.specs.Prelude.{◌≡◌, ℕ, ◌<◌, ◌⊎◌, true, List, length, slice_get, Option, Some, None}
use Rattle.ap_instr.specs.declared.instruction.Instr.{Instr}
use Rattle.ap_cells.specs.declared.cells.Raw.{Raw}
use Rattle.ap_instr.specs.Code.{Compiled}
use Rattle.ap_instr.specs.Steps.{steps_from}
use Rattle.ap_instr.specs.Runs.{AsksOpenly}
use Rattle.ap_needs.specs.Needs.{is_transfer}
use Rattle.ap_steps.specs.Moves.{held, HoldPlaces, Moves, IsStuck}

pub record Ran (code : Compiled) (at : ℕ) (cs : List Raw) (x y : List ℕ) (to : ℕ) (ds : List Raw) (x' y' : List ℕ) : Type 0 where
  pub moves : Moves cs (held x) (held y) (steps_from code at) ds (held x') (held y') (steps_from code to)
  pub openly : AsksOpenly (steps_from code at) → AsksOpenly (steps_from code to)
  pub holds_x : HoldPlaces (length ds) x'
  pub holds_y : HoldPlaces (length ds) y'

-- the same, or they can ask for nothing
abbrev pub RanOrStuck : Compiled → ℕ → List Raw → List ℕ → List ℕ → Option ℕ → List Raw → List ℕ → List ℕ → Type 0
RanOrStuck code at cs x y (Some to) ds x' y' = Ran code at cs x y to ds x' y'
RanOrStuck code at cs x y None ds x' y' = IsStuck cs (held x) (held y) (steps_from code at)

-- an instruction stands at the place that leads elsewhere than to the one behind it
abbrev pub IsTransferAt : Compiled → ℕ → Type 0
IsTransferAt code at = (i : Instr) × (slice_get code.instructions at ≡ Some i) × (is_transfer i ≡ true)

-- such an instruction, or the place to stop at, which is inside the code
abbrev pub IsEndAt : Compiled → ℕ → ℕ → Type 0
IsEndAt code stop at = IsTransferAt code at ⊎ ((at ≡ stop) × (at < length code.instructions))
