-- Clauses that can be taken.
use Rattle.std.specs.Prelude.{ℕ, List}
use Rattle.ap_term.specs.Tree.{Tree, Trees}
use Rattle.ap_cells.specs.declared.cells.Raw.{Raw}
use Rattle.ap_instr.specs.Code.{Compiled}
use Rattle.ap_instr.specs.Step.{Step}
use Rattle.ap_instr.specs.Steps.{steps_from}
use Rattle.ap_instr.specs.Runs.{AsksOpenly}
use Rattle.ap_steps.specs.Moves.{Asked}

-- under some map that fits the cells the steps ask for some goals
abbrev pub CanAsk : List Raw → (ℕ → ℕ) → (ℕ → ℕ) → List Step → Type 0
CanAsk cs x y is = (k : ℕ → Tree) × (bs : Trees) × Asked cs x y is k bs

-- the clause at a place, if its code tests nothing behind a goal, can be taken: its head unifies with the call
abbrev pub CanTake : Compiled → List Raw → (ℕ → ℕ) → ℕ → Type 0
CanTake code cs x at = AsksOpenly (steps_from code at) → (y : ℕ → ℕ) × CanAsk cs x y (steps_from code at)
