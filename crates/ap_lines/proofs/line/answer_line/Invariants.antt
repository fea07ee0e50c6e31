use Rattle.std.proofs.Common.{drop}
use Rattle.ap_cells.specs.Trees.{tree_at, trees}
use Rattle.ap_term.specs.Tuples.{tuple_under}
use Rattle.ap_lines.specs.SoFar.{IsSoFar}
use Rattle.ap_lines.proofs.line.answer_line.Given as goal

abbrev pub invariant-loop-i : goal.invariant-loop-i
invariant-loop-i l =
    IsSoFar l.atoms l.name-items (tuple_under (tree_at (trees l.cells.cells)) l.roots) (drop l.i l.name-items) (tuple_under (tree_at (trees l.cells.cells)) (drop l.i l.roots)) l.is_first l.numbers l.out.items
