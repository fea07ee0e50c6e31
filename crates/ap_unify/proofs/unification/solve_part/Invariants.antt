use Rattle.std.proofs.Common.{◌≡◌, ℕ, ◌≤◌, List, [], ◌∷◌, ◌++◌, length}
use Rattle.ap_term.specs.Tree.{Tree}
use Rattle.ap_cells.specs.Trees.{trees, frees}
use Rattle.ap_cells.specs.Store.{Keeps}
use Rattle.ap_cells.specs.Walks.{Each}
use Rattle.ap_cells.specs.Assumed.{ArePairs}
use Rattle.ap_unify.specs.Works.{weight_runs, turns}
use Rattle.ap_unify.specs.Shared.{Going}
use Rattle.ap_unify.proofs.unification.solve_part.Given as goal

abbrev pub invariant-loop-pairs : goal.invariant-loop-pairs
invariant-loop-pairs l = record {
  going : (ts : List Tree) (a b : ℕ) → Going ts (trees l.initial.cells.cells) (l.initial.runs.items ++ l.fn.start ∷ []) l.initial.classes a b → Going ts (trees l.cells.cells) (l.runs.items ++ l.pairs ∷ []) l.classes a b;
  less : turns (frees l.cells.cells) (weight_runs (trees l.cells.cells) (l.runs.items ++ l.pairs ∷ [])) ≤ turns (frees l.initial.cells.cells) (weight_runs (trees l.initial.cells.cells) (l.initial.runs.items ++ l.fn.start ∷ []));
  left : Each (ArePairs (length l.cells.cells)) l.runs.items;
  inside : ArePairs (length l.cells.cells) l.pairs;
  len : length l.cells.cells ≡ length l.initial.cells.cells;
  keeps : Keeps l.initial.cells l.cells;
  spare : l.cells.spare ≡ l.initial.cells.spare;
}

abbrev pub decreases-loop-pairs : goal.decreases-loop-pairs
decreases-loop-pairs l = turns (frees l.cells.cells) (weight_runs (trees l.cells.cells) (l.runs.items ++ l.pairs ∷ []))
