use Rattle.std.proofs.Common.{◌+◌, ◌*◌, ◌∷◌, length}
use Rattle.ap_cells.specs.Trees.{trees, span}
use Rattle.ap_cells.specs.Walks.{AreRanges, IsRange, Search, weight_all, weight_in}
use Rattle.ap_cells.proofs.walk.search_on.Given as goal

abbrev pub invariant-loop-next : goal.invariant-loop-next
invariant-loop-next l = record {
  search : Search l.x (trees l.cells.cells) l.place l.marks (l.run ∷ l.ranges.items);
  run : IsRange (length l.cells.cells) l.run;
  inside : AreRanges (length l.cells.cells) l.ranges.items;
}

abbrev pub decreases-loop-next : goal.decreases-loop-next
decreases-loop-next l = 2 * weight_all (span (trees l.cells.cells) l.run.first l.run.count) + weight_in (trees l.cells.cells) l.ranges.items
