-- Where the instructions of a clause lead.
use Rattle.std.specs.Prelude.{◌≡◌, ℕ, ◌+◌, ◌<◌, ◌≤◌, Bool, true, false, List, ◌∷◌, length, slice_get, Some}
use Rattle.ap_cells.specs.declared.cells.Raw.{Raw}
use Rattle.ap_cells.specs.Store.{Store}
use Rattle.ap_instr.specs.declared.instruction.Instr.{Instr}
use Rattle.ap_instr.specs.declared.instruction.Instr.TheVariants.{Jump}
use Rattle.ap_instr.specs.Code.{Compiled}
use Rattle.ap_instr.specs.Step.{Step, step_of}
use Rattle.ap_instr.specs.Steps.{steps_from, skipped}
use Rattle.ap_instr.specs.Runs.{AsksOpenly}
use Rattle.ap_needs.specs.Needs.{is_control, is_transfer, cells_of}
use Rattle.ap_steps.specs.declared.run.Outcome.{Outcome}
use Rattle.ap_steps.specs.declared.run.Outcome.TheVariants.{On, Transfer, Stuck}
use Rattle.ap_steps.specs.Moves.{held, HoldPlaces, Moves, IsStuck}

-- so many instructions from a place on, none of control
abbrev pub NoneOfControl : List Instr → ℕ → ℕ → Type 0
NoneOfControl is at n = (k : ℕ) → k < n → (i : Instr) × (slice_get is (at + k) ≡ Some i) × (is_control i ≡ false)

-- a step with n arguments, whose instructions stand from a place on: it was taken with them, or can't be, whatever comes
-- behind
abbrev pub StepTaken : Compiled → Step → ℕ → ℕ → List Raw → (ℕ → ℕ) → (ℕ → ℕ) → List Raw → (ℕ → ℕ) → (ℕ → ℕ) → Bool → Type 0
StepTaken code i at n cs x y ds x' y' true = Moves cs x y (i ∷ steps_from code at) ds x' y' (steps_from code (at + n))
StepTaken code i at n cs x y ds x' y' false = IsStuck cs x y (i ∷ steps_from code at)

-- what becomes of a step with n arguments that was taken, or can't be
abbrev pub came_to : Bool → ℕ → Outcome
came_to true n = On n
came_to false n = Stuck

-- an instruction was taken with n arguments, whose instructions stand from a place on
pub record Passed (code : Compiled) (i : Instr) (at n : ℕ) (v : Store) (x y : List ℕ) (w : Store) (x' y' : List ℕ) : Type 0 where
  pub goes_on : is_transfer i ≡ false
  pub arguments : NoneOfControl code.instructions at n
  pub moves : Moves v.cells (held x) (held y) (step_of code i ∷ steps_from code at) w.cells (held x') (held y') (steps_from code (at + n))
  pub holds_x : HoldPlaces (length w.cells) x'
  pub holds_y : HoldPlaces (length w.cells) y'
  pub spare : v.spare ≤ w.spare + cells_of i

-- the same, or it leads elsewhere than to the next one, and nothing was done, or it can't be taken, whatever comes behind
abbrev pub CameTo : Compiled → Instr → ℕ → Store → List ℕ → List ℕ → Outcome → Store → List ℕ → List ℕ → Type 0
CameTo code i at v x y (On n) w x' y' = Passed code i at n v x y w x' y'
CameTo code i at v x y Transfer w x' y' = (is_transfer i ≡ true) × (w ≡ v) × (x' ≡ x) × (y' ≡ y)
CameTo code i at v x y Stuck w x' y' = (is_transfer i ≡ false) × IsStuck v.cells (held x) (held y) (step_of code i ∷ steps_from code at)

-- A jump keeps what the code asks for: it goes on at the jump's place, or, where that isn't further on, at the next instruction.
pub record JumpLaw : Type 0 where
  pub moves : (code : Compiled) (at l : ℕ) (cs : List Raw) (x y : ℕ → ℕ) → slice_get code.instructions at ≡ Some (Jump l) → Moves cs x y (steps_from code at) cs x y (steps_from code (at + 1 + skipped (Jump l) at))
  pub openly : (code : Compiled) (at l : ℕ) → slice_get code.instructions at ≡ Some (Jump l) → AsksOpenly (steps_from code at) → AsksOpenly (steps_from code (at + 1 + skipped (Jump l) at))
