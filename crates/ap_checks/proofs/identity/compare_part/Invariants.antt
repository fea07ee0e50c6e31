use Rattle.std.proofs.Common.{◌≤◌, List, [], ◌∷◌, ◌++◌, length}
use Rattle.ap_cells.specs.Trees.{trees}
use Rattle.ap_cells.specs.Walks.{Each}
use Rattle.ap_cells.specs.Assumed.{ArePairs}
use Rattle.ap_cells.specs.declared.pairs.Pairs.{Pairs}
use Rattle.ap_checks.specs.Pairs.{weight_pairs}
use Rattle.ap_checks.specs.Shared.{Going}
use Rattle.ap_checks.proofs.identity.compare_part.Given as goal

abbrev pub invariant-loop-run : goal.invariant-loop-run
invariant-loop-run l = record {
  going : (first : List Pairs) → Going (trees l.cells.cells) first (l.initial.pairs.items ++ l.fn.start ∷ []) l.initial.classes → Going (trees l.cells.cells) first (l.pairs.items ++ l.run ∷ []) l.classes;
  less : weight_pairs (trees l.cells.cells) (l.pairs.items ++ l.run ∷ []) ≤ weight_pairs (trees l.cells.cells) (l.initial.pairs.items ++ l.fn.start ∷ []);
  left : Each (ArePairs (length l.cells.cells)) l.pairs.items;
  inside : ArePairs (length l.cells.cells) l.run;
}

abbrev pub decreases-loop-run : goal.decreases-loop-run
decreases-loop-run l = weight_pairs (trees l.cells.cells) (l.pairs.items ++ l.run ∷ [])
