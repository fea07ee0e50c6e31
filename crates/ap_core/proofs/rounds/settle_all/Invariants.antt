use Rattle.std.proofs.Common.{◌≡◌, ◌+◌, map, drop}
use Rattle.ap_core.specs.TaskView.{slot_view, slots_view}
use Rattle.ap_core.proofs.SlotLoops.{mixed, by_side}
use Rattle.ap_core.proofs.rounds.settle_all.Given as goal

abbrev pub invariant-loop-j : goal.invariant-loop-j
invariant-loop-j l = map slot_view l.slots.items ≡ mixed (by_side l.i) 0 l.j (map slot_view l.initial.slots.items)
