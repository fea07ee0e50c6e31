use Rattle.std.proofs.Common.{◌+◌}
use Rattle.ap_term.specs.Tree.{node}
use Rattle.ap_cells.specs.Trees.{span, trees}
use Rattle.ap_copy.specs.Copying.{Going, weight_frame, weight_frames}
use Rattle.ap_copy.specs.Memory.{Remembers}
use Rattle.ap_copy.proofs.copying.copy_begun.Given as goal

abbrev pub invariant-loop-frame : goal.invariant-loop-frame
invariant-loop-frame l = record {
  going : Going (trees l.cells.cells) l.marks (node l.fn.begun.name (span (trees l.cells.cells) l.fn.begun.first l.fn.begun.count)) l.fn.copying.block.items l.fn.copying.loose.items l.copying.frames.items l.frame l.copying.loose.items l.copying.block.items;
  memory : Remembers (trees l.cells.cells) l.marks l.copying.block.items l.memory.entries.items;
}

abbrev pub decreases-loop-frame : goal.decreases-loop-frame
decreases-loop-frame l = weight_frames (trees l.cells.cells) l.copying.frames.items + weight_frame (trees l.cells.cells) l.frame
