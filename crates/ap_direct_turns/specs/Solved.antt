-- What a goal of arithmetic makes of cells and registers.
use Rattle.std.specs.Prelude.{◌≡◌, ℕ, ℤ, ◌+◌, Bool, true, List, length, Some}
use Rattle.ap_term.specs.Tree.{Tree, int}
use Rattle.ap_term.specs.Arithmetic.{eval, compare_values}
use Rattle.ap_cells.specs.declared.cells.Raw.{Raw}
use Rattle.ap_cells.specs.Trees.{tree_at, trees}
use Rattle.ap_instr.specs.declared.instruction.Slot.{Slot}
use Rattle.ap_instr.specs.Runs.{read, set_x, set_y}
use Rattle.ap_match.specs.Fits.{Fits, Answered}
use Rattle.ap_steps.specs.Moves.{held}
use Rattle.ap_direct.specs.declared.goal.Part.{Part}
use Rattle.ap_direct.specs.declared.goal.Goal.{Goal}
use Rattle.ap_direct.specs.declared.goal.Goal.TheVariants.{Compare, Match, Give}
use Rattle.ap_direct.specs.Goals.{part_tree}

-- the trees that registers hold
abbrev pub own : List Raw → List ℕ → ℕ → Tree
own cs x w = tree_at (trees cs) (held x w)

abbrev pub own_part : List Raw → List ℕ → List ℕ → Part → Tree
own_part cs x y a = part_tree a (own cs x) (own cs y)

-- the same registers
pub record SameRegisters (x y x' y' : List ℕ) : Type 0 where
  pub same_x : x' ≡ x
  pub same_y : y' ≡ y

-- a new place that is the value, which a register gets
pub record Given (cs ds : List Raw) (x y x' y' : List ℕ) (v : Slot) (z : ℤ) : Type 0 where
  pub longer : length ds ≡ length cs + 1
  pub only : (k : ℕ → Tree) → Fits ds k → Fits cs k × (k (length cs) ≡ int z)
  pub each : (k : ℕ → Tree) → Fits cs k → k (length cs) ≡ int z → Fits ds k
  pub held_x : (w : ℕ) → held x' w ≡ set_x v (length cs) (held x) w
  pub held_y : (w : ℕ) → held y' w ≡ set_y v (length cs) (held y) w

-- the goal was solved from cells and registers, and holds or doesn't
abbrev pub SolvedOn : Goal → List Raw → List ℕ → List ℕ → List Raw → List ℕ → List ℕ → Bool → Type 0
SolvedOn (Compare op a b) cs x y ds x' y' r =
    (ds ≡ cs) × SameRegisters x y x' y' × (compare_values op (eval (own_part cs x y a)) (eval (own_part cs x y b)) ≡ r)
SolvedOn (Match v a) cs x y ds x' y' r =
    (z : ℤ) × (eval (own_part cs x y a) ≡ Some z) × SameRegisters x y x' y' × Answered cs ds (λ k. k (read v (held x) (held y)) ≡ int z) r
SolvedOn (Give v a) cs x y ds x' y' r =
    (z : ℤ) × (eval (own_part cs x y a) ≡ Some z) × Given cs ds x y x' y' v z × (r ≡ true)
