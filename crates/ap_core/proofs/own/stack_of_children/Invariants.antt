use Rattle.std.proofs.Common.{◌≡◌, map, length}
use Rattle.ap_core.specs.Tasks.{Alternatives}
use Rattle.ap_core.specs.TaskView.{alternative_view, stacked}
use Rattle.ap_core.specs.Relation.{states}
use Rattle.ap_core.proofs.own.stack_of_children.Given as goal

abbrev pub invariant-loop-child : goal.invariant-loop-child
invariant-loop-child l = (k : Alternatives) → states l.left (stacked (map alternative_view l.stack.items) k) ≡ states l.initial.left k

abbrev pub decreases-loop-child : goal.decreases-loop-child
decreases-loop-child l = length l.left
