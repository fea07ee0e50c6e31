use Rattle.std.proofs.Common.{List, [], ◌∷◌, ◌++◌, length}
use Rattle.ap_cells.specs.Trees.{trees}
use Rattle.ap_cells.specs.Walks.{Each}
use Rattle.ap_cells.specs.Assumed.{ArePairs}
use Rattle.ap_cells.specs.declared.pairs.Pairs.{Pairs}
use Rattle.ap_checks.specs.Pairs.{weight_pairs}
use Rattle.ap_checks.specs.Shared.{Going}
use Rattle.ap_checks.proofs.identity.compare_on.Given as goal

abbrev pub invariant-loop-next : goal.invariant-loop-next
invariant-loop-next l = record {
  going : (first : List Pairs) → Going (trees l.cells.cells) first (l.initial.pairs.items ++ l.fn.start ∷ []) l.initial.classes → Going (trees l.cells.cells) first (l.pairs.items ++ l.run ∷ []) l.classes;
  left : Each (ArePairs (length l.cells.cells)) l.pairs.items;
  inside : ArePairs (length l.cells.cells) l.run;
}

abbrev pub decreases-loop-next : goal.decreases-loop-next
decreases-loop-next l = weight_pairs (trees l.cells.cells) (l.pairs.items ++ l.run ∷ [])
