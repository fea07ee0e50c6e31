use Rattle.std.proofs.Common.{◌≡◌, ◌++◌, ◌≤◌, map, drop, length}
use Rattle.ap_core.specs.Tasks.{Alternatives}
use Rattle.ap_core.specs.TaskView.{answer_of, last_of, alternative_view, stacked}
use Rattle.ap_core.specs.Relation.{states, as_states}
use Rattle.ap_core.proofs.replays.stack_of_answers.Given as goal

abbrev pub invariant-loop-left : goal.invariant-loop-left
invariant-loop-left l = record {
  within : l.left ≤ length l.answers;
  stacks : (k : Alternatives) → stacked (map alternative_view l.stack.items) k ≡ states (as_states (map answer_of (drop l.left l.answers) ++ last_of l.fn.last)) k;
}

abbrev pub decreases-loop-left : goal.decreases-loop-left
decreases-loop-left l = l.left
