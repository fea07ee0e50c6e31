-- What an instruction behind a structure makes of the goals that code can ask for, where the structure's arguments are
-- the cells that are pushed.
use Rattle.std.specs.Prelude.{◌≡◌, ℕ, suc, ◌+◌, ◌<◌, ◌≤◌, Bool, true, false, List, ◌∷◌, length}
use Rattle.ap_term.specs.Tree.{Tree, Trees}
use Rattle.ap_term.specs.Vars.{occurs}
use Rattle.ap_cells.specs.declared.cells.Raw.{Raw}
use Rattle.ap_cells.specs.declared.cells.Raw.TheVariants.{Int, Atom}
use Rattle.ap_cells.specs.Trees.{tree_at, trees}
use Rattle.ap_instr.specs.Code.{Compiled}
use Rattle.ap_instr.specs.Step.{Step}
use Rattle.ap_instr.specs.Steps.{steps_from}
use Rattle.ap_instr.specs.Runs.{Runs, spread}
use Rattle.ap_match.specs.Fits.{Fits}
use Rattle.ap_steps.specs.declared.arguments.Parts.{Parts}
use Rattle.ap_steps.specs.declared.arguments.Parts.TheVariants.{Fresh, Values, Stuck}

-- under a map that fits the cells, inside a structure whose arguments ts are still to come, the steps ask for these goals
abbrev pub AskedInside : List Raw → (ℕ → ℕ) → (ℕ → ℕ) → List Step → Trees → (ℕ → Tree) → Trees → Type 0
AskedInside cs x y is ts l bs = Fits cs l × Runs is ts (λ w. l (x w)) (λ w. l (y w)) bs

-- one more argument has its cell: under each map, which gives trees to places behind the cells too, code asks for the same
pub record Built (cs : List Raw) (x y : ℕ → ℕ) (i : Step) (ds : List Raw) (x' y' : ℕ → ℕ) : Type 0 where
  pub longer : length ds ≡ length cs + 1
  pub forth : (l : ℕ → Tree) (m : ℕ) (is : List Step) (bs : Trees) → AskedInside cs x y (i ∷ is) (spread l (length cs) (suc m)) l bs → AskedInside ds x' y' is (spread l (length cs + 1) m) l bs
  pub back : (l : ℕ → Tree) (m : ℕ) (is : List Step) (bs : Trees) → AskedInside ds x' y' is (spread l (length cs + 1) m) l bs → AskedInside cs x y (i ∷ is) (spread l (length cs) (suc m)) l bs

-- The same, or no map serves that gives the structure's own place, which is to come, another tree than its argument.
abbrev pub BuiltOr : ℕ → List Raw → (ℕ → ℕ) → (ℕ → ℕ) → Step → List Raw → (ℕ → ℕ) → (ℕ → ℕ) → Bool → Type 0
BuiltOr whole cs x y i ds x' y' true = Built cs x y i ds x' y'
BuiltOr whole cs x y i ds x' y' false =
    (l : ℕ → Tree) (m : ℕ) (is : List Step) (bs : Trees) → (l whole ≡ l (length cs) → ⊥) → AskedInside cs x y (i ∷ is) (spread l (length cs) (suc m)) l bs → ⊥

-- So many arguments have their cells one behind another: of `total` that were to come, m are.
pub record BuiltAll (count : ℕ) (cs : List Raw) (x y : ℕ → ℕ) (js : List Step) (ds : List Raw) (x' y' : ℕ → ℕ) (is : List Step) : Type 0 where
  pub longer : length ds ≡ length cs + count
  pub forth : (l : ℕ → Tree) (m total : ℕ) (bs : Trees) → total ≡ count + m → AskedInside cs x y js (spread l (length cs) total) l bs → AskedInside ds x' y' is (spread l (length cs + count) m) l bs
  pub back : (l : ℕ → Tree) (m total : ℕ) (bs : Trees) → total ≡ count + m → AskedInside ds x' y' is (spread l (length cs + count) m) l bs → AskedInside cs x y js (spread l (length cs) total) l bs

-- no map serves that gives the structure's own place another tree than each of its arguments
abbrev pub IsStuckInside : ℕ → ℕ → List Raw → (ℕ → ℕ) → (ℕ → ℕ) → List Step → Type 0
IsStuckInside whole total cs x y js =
    (l : ℕ → Tree) (bs : Trees) → ((p : ℕ) → length cs ≤ p → p < length cs + total → l whole ≡ l p → ⊥) → AskedInside cs x y js (spread l (length cs) total) l bs → ⊥

-- so many arguments by the instructions from a place on, or none can be built, where the structure's place comes behind them
abbrev pub BuiltOrStuck : Compiled → ℕ → ℕ → List Raw → (ℕ → ℕ) → (ℕ → ℕ) → List Raw → (ℕ → ℕ) → (ℕ → ℕ) → Bool → Type 0
BuiltOrStuck code at n cs x y ds x' y' true = BuiltAll n cs x y (steps_from code at) ds x' y' (steps_from code (at + n))
BuiltOrStuck code at n cs x y ds x' y' false = IsStuckInside (length cs + n) n cs x y (steps_from code at)

-- arguments were built
abbrev pub are_built : Parts → Bool
are_built Fresh = true
are_built Values = true
are_built Stuck = false

-- the cell is a constant's
abbrev pub holds_constant : Raw → Bool
holds_constant (Int z) = true
holds_constant (Atom a) = true
holds_constant _ = false

-- the old places keep their trees
abbrev pub KeepTrees : List Raw → List Raw → Type 0
KeepTrees cs ds = (p : ℕ) → p < length cs → tree_at (trees ds) p ≡ tree_at (trees cs) p

-- no variable of the old cells stands in the cells behind them, as where these are constants and variables of their own
abbrev pub StandApart : List Raw → List Raw → Type 0
StandApart cs ds = (x p : ℕ) → x < length cs → length cs ≤ p → p < length ds → occurs x (tree_at (trees ds) p) ≡ false
