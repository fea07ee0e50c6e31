use Rattle.std.proofs.Common.{◌≡◌, drop}
use Rattle.ap_term.specs.TermView.{trees_of}
use Rattle.ap_core.specs.TaskView.{slots_view}
use Rattle.ap_core.specs.Relation.{ready}
use Rattle.ap_core.proofs.Alternatives.{slots_before}
use Rattle.ap_core.proofs.own.ready_slots.Given as goal

abbrev pub invariant-loop-goal : goal.invariant-loop-goal
invariant-loop-goal l = ready (trees_of l.goals) ≡ slots_before (slots_view l.slots.items) (ready (trees_of (drop l.goal-index l.goals)))
