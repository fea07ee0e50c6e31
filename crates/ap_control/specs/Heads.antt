-- Clauses that are passed over because they can't be entered.
use Rattle.std.specs.Prelude.{◌≡◌, ℕ, List, ◌++◌}
use Rattle.std.specs.List.{AllByRecursion}
use Rattle.ap_cells.specs.declared.cells.Raw.{Raw}
use Rattle.ap_instr.specs.Code.{Compiled}
use Rattle.ap_instr.specs.Steps.{steps_from}
use Rattle.ap_steps.specs.Moves.{IsStuck}

-- the clause at a place can't be entered, whatever the Y registers hold
abbrev pub IsShut : Compiled → List Raw → (ℕ → ℕ) → ℕ → Type 0
IsShut code cs x at = (y : ℕ → ℕ) → IsStuck cs x y (steps_from code at)

-- of clauses' places only those behind some that can't be entered are left
pub record PassesOver (code : Compiled) (cs : List Raw) (x : ℕ → ℕ) (ls rest : List ℕ) : Type 0 where
  pub passed : List ℕ
  pub are : ls ≡ passed ++ rest
  pub shut : AllByRecursion (IsShut code cs x) passed
