-- What each end knows.
use Rattle.crossbeam_deque.specs.Handles.{view, worker_view}
use Rattle.ap_goalstack.specs.declared.view.Hand.{Hand}
use Rattle.ap_goalstack.specs.declared.ends.GoalStack.{GoalStack}
use Rattle.ap_goalstack.specs.declared.ends.Thief.{Thief}

module _ {R : Type 0} where
  abbrev pub stack_hand : GoalStack R → Hand
  stack_hand s = worker_view s.worker

  abbrev pub thief_hand : Thief R → Hand
  thief_hand t = view t.pass
