use Rattle.std.proofs.Common.{◌≡◌, map, length}
use Rattle.ap_term.specs.GoalView.{part_of}
use Rattle.ap_lifting.specs.Row.{row_if}
use Rattle.ap_clause.specs.Outside.{outside_rest}
use Rattle.ap_clause.proofs.outside.outside_row.Given as goal

abbrev pub invariant-loop-left : goal.invariant-loop-left
invariant-loop-left l = outside_rest (row_if (map part_of l.left)) ≡ outside_rest (row_if (map part_of l.goals))

abbrev pub decreases-loop-left : goal.decreases-loop-left
decreases-loop-left l = length l.left
