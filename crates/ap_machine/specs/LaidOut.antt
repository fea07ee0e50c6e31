-- A tuple's terms in cells, and their places in registers.
use Rattle.std.specs.Prelude.{◌≡◌, ℕ, ◌+◌, ◌<◌, ◌≤◌, List, length, replicate}
use Rattle.std.specs.List.{AllByRecursion}
use Rattle.ap_term.specs.Tree.{Trees, count_trees}
use Rattle.ap_term.specs.Substitution.{instance_all, shift}
use Rattle.ap_cells.specs.Store.{Store}
use Rattle.ap_cells.specs.Trees.{trees, span}
use Rattle.ap_needs.specs.declared.widths.Widths.{Widths}
use Rattle.ap_steps.specs.Moves.{held, HoldPlaces}
use Rattle.ap_machine.specs.Sane.{HasBottom}

-- a tuple's places in the argument registers, and in the list of its places
pub record HoldsTuple (v : Store) (ts : Trees) (x roots : List ℕ) : Type 0 where
  pub base : ℕ
  pub first : ℕ
  pub count : ℕ
  pub within : first + count ≤ length v.cells
  pub tuple : span (trees v.cells) first count ≡ instance_all (shift base) ts
  pub width : count ≡ count_trees ts
  pub args : (i : ℕ) → i < count → held x (i + 1) ≡ first + i
  pub len : length roots ≡ count
  pub each : (i : ℕ) → i < count → held roots i ≡ first + i

-- as wide as the code asks for, and no permanent variable is set
pub record IsLaidOut (ts : Trees) (w : Widths) (v : Store) (x y roots : List ℕ) : Type 0 where
  pub tuple : HoldsTuple v ts x roots
  pub count : length x ≡ w.x
  pub unset : y ≡ replicate w.y 0

-- registers and the list hold places of cells, the first of which is an atom
pub record AreInside (v : Store) (x y roots : List ℕ) : Type 0 where
  pub bottom : HasBottom v
  pub registers : HoldPlaces (length v.cells) x
  pub permanent : HoldPlaces (length v.cells) y
  pub places : AllByRecursion (λ r. r < length v.cells) roots
