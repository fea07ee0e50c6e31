-- Instructions that code goes past whatever the registers hold.
use Rattle.std.specs.Prelude.{◌≡◌, ℕ, true, false, List, ◌∷◌, Option, Some, None}
use Rattle.ap_term.specs.Tree.{Tree, Trees, count_trees}
use Rattle.ap_instr.specs.declared.instruction.Slot.{Slot}
use Rattle.ap_instr.specs.declared.instruction.Slot.TheVariants.{X, Y}
use Rattle.ap_instr.specs.declared.instruction.Instr.{Instr}
use Rattle.ap_instr.specs.declared.compiled.Predicate.{Predicate}
use Rattle.ap_instr.specs.Code.{Compiled}
use Rattle.ap_instr.specs.Step.{Step, other, step_of}
use Rattle.ap_instr.specs.Runs.{Runs, set, IsOpen, AsksOpenly}
use Rattle.ap_needs.specs.Needs.{is_transfer}
use Rattle.ap_index.specs.declared.opening.Way.{Way}
use Rattle.ap_index.specs.declared.opening.Way.TheVariants.{On, Structure, Goal, Other}

-- a call leads to a goal if the table has its predicate
abbrev pub IsWayByCall : Option Predicate → Way → Type 0
IsWayByCall (Some q) way = way ≡ Goal
IsWayByCall None way = way ≡ Other

-- a register isn't the X register with a number
abbrev pub IsApart : Slot → ℕ → Type 0
IsApart (X m) a = m ≡ a → ⊥
IsApart (Y m) a = Unit {0}

-- Where n arguments are still to come of a structure that an X register holds, there are such that the steps ask for something
-- with them, whatever the registers hold.
abbrev pub IsOpenInside : ℕ → ℕ → List Step → Type 0
IsOpenInside a n is = (x y : ℕ → Tree) → (ts : Trees) × (count_trees ts ≡ n) × ((t : Tree) → (bs : Trees) × Runs is ts (set x a t) y bs)

-- An instruction that can always be taken, and leads to the next one; one that puts a structure in a register; one that asks
-- for a goal, or ends the clause; or another one, which leads nowhere if it is one of control.
abbrev pub LeadsBy : Compiled → Instr → Way → Type 0
LeadsBy code i On = (is_transfer i ≡ false) × ((is : List Step) → IsOpen is → IsOpen (step_of code i ∷ is))
LeadsBy code i (Structure n a) = (is_transfer i ≡ false) × ((is : List Step) → IsOpenInside a n is → IsOpen (step_of code i ∷ is))
LeadsBy code i Goal = (is : List Step) → AsksOpenly (step_of code i ∷ is) → IsOpen (step_of code i ∷ is)
LeadsBy code i Other = is_transfer i ≡ true → step_of code i ≡ other
