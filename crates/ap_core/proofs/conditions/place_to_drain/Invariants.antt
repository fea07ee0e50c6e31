use Rattle.std.proofs.Common.{◌≡◌, drop}
use Rattle.ap_core.specs.TaskView.{slots_view}
use Rattle.ap_core.specs.Conditions.{place_to_drain}
use Rattle.ap_core.specs.Telling.{told}
use Rattle.ap_core.proofs.Edges.{later_of}
use Rattle.ap_core.proofs.conditions.place_to_drain.Given as goal

abbrev pub invariant-loop-x : goal.invariant-loop-x
invariant-loop-x l = record {
  whole : place_to_drain (told l.loud) (slots_view l.slots) ≡ later_of l.i l.place (place_to_drain (told l.loud) (slots_view (drop l.x-index l.slots)));
  index : l.i ≡ l.x-index;
}
