use Rattle.std.proofs.Common.{◌≡◌, ℕ, ◌+◌, ◌<◌, false}
use Rattle.ap_term.specs.Vars.{occurs}
use Rattle.ap_cells.specs.Trees.{tree_at, trees}
use Rattle.ap_match.proofs.matching.are_apart.Given as goal

abbrev pub invariant-loop-i : goal.invariant-loop-i
invariant-loop-i l = (j : ℕ) → j < l.i → occurs l.x (tree_at (trees l.cells.cells) (l.first + j)) ≡ false
