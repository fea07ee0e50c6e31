use Rattle.std.proofs.Common.{◌-◌, ◌≤◌, length, drop, map}
use Rattle.ap_term.specs.GoalView.{part_of}
use Rattle.ap_patterns.specs.Given.{patterns}
use Rattle.ap_udg.proofs.Bodies.{GoesOn}
use Rattle.ap_udg.proofs.groups.grouped.Given as goal

abbrev pub invariant-loop-from : goal.invariant-loop-from
invariant-loop-from l = record {
  within : l.from ≤ length l.parts;
  whole : GoesOn l.rule (patterns l.table) l.initial.state (map part_of l.parts) l.body l.state (map part_of (drop l.from l.parts));
}

abbrev pub decreases-loop-from : goal.decreases-loop-from
decreases-loop-from l = length l.parts - l.from
