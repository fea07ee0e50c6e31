use Rattle.std.proofs.Common.{◌≡◌, drop, map}
use Rattle.std.specs.List.{list_any}
use Rattle.ap_term.specs.GoalView.{part_of}
use Rattle.ap_worker.specs.Grouped.{is_group}
use Rattle.ap_worker.proofs.groups.any_group.Given as goal

abbrev pub invariant-loop-part : goal.invariant-loop-part
invariant-loop-part l = list_any is_group (map part_of (drop l.part-index l.parts)) ≡ list_any is_group (map part_of l.parts)
