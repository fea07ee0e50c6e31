use Rattle.std.proofs.Common.{ℕ, ◌+◌, ◌*◌, ◌≤◌, ◌∷◌, length}
use Rattle.ap_cells.specs.Trees.{trees, span}
use Rattle.ap_cells.specs.Walks.{AreRanges, IsRange, Search, weight_all, weight_in}
use Rattle.ap_cells.proofs.walk.search.Given as goal

abbrev pub invariant-loop-run : goal.invariant-loop-run
invariant-loop-run l = record {
  search : (root : ℕ) → Search l.x (trees l.cells.cells) root l.initial.marks (l.fn.start ∷ l.initial.ranges.items) → Search l.x (trees l.cells.cells) root l.marks (l.run ∷ l.ranges.items);
  less : 2 * weight_all (span (trees l.cells.cells) l.run.first l.run.count) + weight_in (trees l.cells.cells) l.ranges.items ≤ 2 * weight_all (span (trees l.cells.cells) l.fn.start.first l.fn.start.count) + weight_in (trees l.cells.cells) l.initial.ranges.items;
  run : IsRange (length l.cells.cells) l.run;
  inside : AreRanges (length l.cells.cells) l.ranges.items;
}

abbrev pub decreases-loop-run : goal.decreases-loop-run
decreases-loop-run l = 2 * weight_all (span (trees l.cells.cells) l.run.first l.run.count) + weight_in (trees l.cells.cells) l.ranges.items
