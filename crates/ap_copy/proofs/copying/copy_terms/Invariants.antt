use Rattle.std.proofs.Common.{◌≡◌, [], map, take}
use Rattle.ap_cells.specs.Trees.{tree_at, trees}
use Rattle.ap_copy.specs.Copies.{AreCopies, IsBlock}
use Rattle.ap_copy.specs.Memory.{Remembers}
use Rattle.ap_copy.proofs.copying.copy_terms.Given as goal

abbrev pub invariant-loop-root : goal.invariant-loop-root
invariant-loop-root l = record {
  copies : AreCopies l.marks l.copying.block.items l.copying.loose.items (map (tree_at (trees l.cells.cells)) (take l.root-index l.roots));
  block : IsBlock l.marks l.copying.block.items;
  memory : Remembers (trees l.cells.cells) l.marks l.copying.block.items l.memory.entries.items;
  idle : l.copying.frames.items ≡ [];
}
