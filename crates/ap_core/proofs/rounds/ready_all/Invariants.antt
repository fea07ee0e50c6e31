use Rattle.std.proofs.Common.{◌≡◌, ◌+◌, map, drop}
use Rattle.ap_core.specs.TaskView.{slot_view, slots_view}
use Rattle.ap_core.specs.Rounds.{changed_place}
use Rattle.ap_core.specs.Relation.{readied}
use Rattle.ap_core.proofs.SlotLoops.{mixed}
use Rattle.ap_core.proofs.rounds.ready_all.Given as goal

abbrev pub invariant-loop-j : goal.invariant-loop-j
invariant-loop-j l = map slot_view l.slots.items ≡ mixed (λ i. changed_place readied) 0 l.j (map slot_view l.initial.slots.items)
