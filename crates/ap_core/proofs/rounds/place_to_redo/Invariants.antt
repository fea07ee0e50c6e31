use Rattle.std.proofs.Common.{◌≡◌, drop}
use Rattle.ap_core.specs.TaskView.{slots_view}
use Rattle.ap_core.specs.Rounds.{place_to_redo}
use Rattle.ap_core.proofs.SlotLoops.{pending}
use Rattle.ap_core.proofs.rounds.place_to_redo.Given as goal

abbrev pub invariant-loop-x : goal.invariant-loop-x
invariant-loop-x l = record {
  whole : place_to_redo (slots_view l.slots) ≡ pending l.x-index l.place (slots_view (drop l.x-index l.slots));
  index : l.i ≡ l.x-index;
}
