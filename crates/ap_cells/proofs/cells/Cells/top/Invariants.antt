use Rattle.std.proofs.Common.{◌≡◌, ◌<◌, length}
use Rattle.ap_cells.specs.Trees.{tree_at, trees}
use Rattle.ap_cells.proofs.cells.Cells.top.Given as goal

abbrev pub invariant-loop-j : goal.invariant-loop-j
invariant-loop-j l = (l.at < length l.self.cells) × (tree_at (trees l.self.cells) l.at ≡ tree_at (trees l.self.cells) l.place)

abbrev pub decreases-loop-j : goal.decreases-loop-j
decreases-loop-j l = l.at
