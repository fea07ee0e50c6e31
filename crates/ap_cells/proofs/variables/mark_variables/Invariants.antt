use Rattle.std.proofs.Common.{ℕ, length}
use Rattle.ap_cells.specs.Trees.{trees}
use Rattle.ap_cells.specs.Walks.{AreRanges, Gathers, weight_in}
use Rattle.ap_cells.proofs.variables.mark_variables.Given as goal

abbrev pub invariant-loop-variable : goal.invariant-loop-variable
invariant-loop-variable l = record {
  gathers : (x : ℕ) → Gathers x (trees l.cells.cells) l.place l.fn.marks l.marks l.walk;
  inside : AreRanges (length l.cells.cells) l.walk.ranges;
}

abbrev pub decreases-loop-variable : goal.decreases-loop-variable
decreases-loop-variable l = weight_in (trees l.cells.cells) l.walk.ranges
