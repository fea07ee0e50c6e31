use Rattle.std.proofs.Common.{◌≡◌, ◌+◌, ◌++◌, length, map, take}
use Rattle.ap_term.specs.Substitution.{instance, shift}
use Rattle.ap_cells.specs.Store.{Keeps}
use Rattle.ap_cells.specs.Trees.{trees}
use Rattle.ap_copy.proofs.parcels.push_block.Given as goal

abbrev pub invariant-loop-raw : goal.invariant-loop-raw
invariant-loop-raw l = record {
  trees : trees l.cells.cells ≡ trees l.fn.cells.cells ++ map (instance (shift (length (trees l.fn.cells.cells)))) (take l.raw-index (trees l.block));
  len : length l.cells.cells ≡ length l.fn.cells.cells + l.raw-index;
  trail : l.cells.trail ≡ l.fn.cells.trail;
  spare : l.cells.spare + l.raw-index ≡ l.fn.cells.spare;
  keeps : Keeps l.fn.cells l.cells;
}
