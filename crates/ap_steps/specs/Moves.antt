-- What an instruction makes of the goals that code can ask for.
use Rattle.std.specs.Prelude.{◌≡◌, ℕ, ◌<◌, ◌≤◌, Bool, true, false, List, ◌∷◌, length, slice_index}
use Rattle.ap_term.specs.Tree.{Tree, Trees, int, atom, none}
use Rattle.ap_cells.specs.declared.cells.Raw.{Raw}
use Rattle.ap_cells.specs.declared.cells.Cell.{Cell}
use Rattle.ap_cells.specs.declared.cells.Cell.TheVariants.{Int, Atom}
use Rattle.ap_instr.specs.Step.{Step}
use Rattle.ap_instr.specs.Runs.{Runs}
use Rattle.ap_match.specs.Fits.{Fits, Agree}

-- registers by their numbers; what has no number in the list holds place 0
abbrev pub held : List ℕ → ℕ → ℕ
held xs n = slice_index xs n

-- registers hold places
abbrev pub HoldPlaces : ℕ → List ℕ → Type 0
HoldPlaces n xs = (w : ℕ) → held xs w < n

-- under a map that fits the cells the steps ask for these goals
abbrev pub Asked : List Raw → (ℕ → ℕ) → (ℕ → ℕ) → List Step → (ℕ → Tree) → Trees → Type 0
Asked cs x y is k bs = Fits cs k × Runs is none (λ w. k (x w)) (λ w. k (y w)) bs

-- the steps `is` ask for the same goals now as the steps `js` did before, and places keep their trees
pub record Moves (cs : List Raw) (x y : ℕ → ℕ) (js : List Step) (cs' : List Raw) (x' y' : ℕ → ℕ) (is : List Step) : Type 0 where
  pub longer : length cs ≤ length cs'
  pub forth : (k : ℕ → Tree) (bs : Trees) → Asked cs x y js k bs → (l : ℕ → Tree) × Agree (length cs) k l × Asked cs' x' y' is l bs
  pub back : (l : ℕ → Tree) (bs : Trees) → Asked cs' x' y' is l bs → Asked cs x y js l bs

-- the steps can ask for nothing
abbrev pub IsStuck : List Raw → (ℕ → ℕ) → (ℕ → ℕ) → List Step → Type 0
IsStuck cs x y js = (k : ℕ → Tree) (bs : Trees) → Asked cs x y js k bs → ⊥

-- a step that was taken, or that can't be, whatever comes behind it
abbrev pub Taken : List Raw → (ℕ → ℕ) → (ℕ → ℕ) → Step → List Raw → (ℕ → ℕ) → (ℕ → ℕ) → Bool → Type 0
Taken cs x y i cs' x' y' true = (is : List Step) → Moves cs x y (i ∷ is) cs' x' y' is
Taken cs x y i cs' x' y' false = (is : List Step) → IsStuck cs x y (i ∷ is)

-- the tree of a cell that is a constant
abbrev pub constant_of : Cell → Tree
constant_of (Int z) = int z
constant_of (Atom a) = atom a
constant_of _ = atom 0

-- registers hold places, or a place that is to come
abbrev pub HoldPlacesBut : ℕ → ℕ → List ℕ → Type 0
HoldPlacesBut whole n xs = (w : ℕ) → (held xs w ≡ whole → ⊥) → held xs w < n
