use Rattle.std.proofs.Common.{take}
use Rattle.ap_cells.specs.Trees.{trees}
use Rattle.ap_copy.specs.Copies.{KnownAll, tuple_at}
use Rattle.ap_copy.proofs.variables.mark_variables.Given as goal

abbrev pub invariant-loop-root : goal.invariant-loop-root
invariant-loop-root l = KnownAll l.marks (tuple_at (trees l.cells.cells) (take l.root-index l.roots))
