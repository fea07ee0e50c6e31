use Rattle.std.proofs.Common.{◌≡◌, ◌≤◌, map, length}
use Rattle.ap_core.specs.TaskView.{slot_view}
use Rattle.ap_core.specs.Rounds.{choice_of, put_choices}
use Rattle.ap_core.proofs.replays.put_all.Given as goal

abbrev pub invariant-loop-choice : goal.invariant-loop-choice
invariant-loop-choice l = record {
  whole : put_choices (map choice_of l.made.items) (map slot_view l.slots.items) ≡ put_choices (map choice_of l.initial.made.items) (map slot_view l.initial.slots.items);
  fits : length l.made.items ≤ length l.slots.items;
}

abbrev pub decreases-loop-choice : goal.decreases-loop-choice
decreases-loop-choice l = length l.made.items
