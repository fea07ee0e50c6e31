-- A store as the maps from its places to trees that fit it.
use Rattle.std.specs.Prelude.{◌≡◌, ℕ, ◌<◌, ◌≤◌, Bool, true, false, List, length}
use Rattle.ap_term.specs.Tree.{Tree, int, atom, node}
use Rattle.ap_term.specs.Substitution.{instance}
use Rattle.ap_cells.specs.declared.cells.Raw.{Raw}
use Rattle.ap_cells.specs.declared.cells.Raw.TheVariants.{Free, Same, Int, Atom, Node}
use Rattle.ap_cells.specs.declared.top.Top.{Top}
use Rattle.ap_cells.specs.declared.top.Top.TheVariants.{Free as Free_top, Int as Int_top, Atom as Atom_top, Node as Node_top}
use Rattle.ap_cells.specs.Trees.{tree_at, trees}
use Rattle.ap_instr.specs.Runs.{spread}

-- each place gets an instance of its tree, all of them by one map of variables
abbrev pub Fits : List Raw → (ℕ → Tree) → Type 0
Fits cs k = (f : ℕ → Tree) × ((i : ℕ) → i < length cs → k i ≡ instance f (tree_at (trees cs) i))

abbrev pub Agree : ℕ → (ℕ → Tree) → (ℕ → Tree) → Type 0
Agree n k l = (i : ℕ) → i < n → k i ≡ l i

-- what a cell at place i says of the place's tree; an unbound one says nothing
abbrev pub cell_tree : (ℕ → Tree) → ℕ → Raw → Tree
cell_tree k i Free = k i
cell_tree k i (Same j) = k j
cell_tree k i (Int z) = int z
cell_tree k i (Atom a) = atom a
cell_tree k i (Node a p n) = node a (spread k p n)

-- the same of the outermost part of a term
abbrev pub top_tree : (ℕ → Tree) → Top → Tree
top_tree k (Free_top x) = k x
top_tree k (Int_top z) = int z
top_tree k (Atom_top a) = atom a
top_tree k (Node_top a p n) = node a (spread k p n)

-- the maps that fit the new cells are those that fitted the old ones and have `asked`, with trees for the new places such
-- that they have `made`
pub record Becomes (old new : List Raw) (asked made : (ℕ → Tree) → Type 0) : Type 0 where
  pub longer : length old ≤ length new
  pub only : (k : ℕ → Tree) → Fits new k → Fits old k × asked k × made k
  pub each : (k : ℕ → Tree) → Fits old k → asked k → (l : ℕ → Tree) × Agree (length old) k l × Fits new l

-- a question to the store: where the answer is no, no map that fits has what is asked
abbrev pub Answered : List Raw → List Raw → ((ℕ → Tree) → Type 0) → Bool → Type 0
Answered old new asked true = Becomes old new asked (λ k. Unit {0})
Answered old new asked false = (k : ℕ → Tree) → Fits old k → asked k → ⊥
