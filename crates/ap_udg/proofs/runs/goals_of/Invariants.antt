use Rattle.std.proofs.Common.{◌≡◌, take, map}
use Rattle.ap_term.specs.GoalView.{part_of}
use Rattle.ap_udg.specs.Runs.{goals_of}
use Rattle.ap_udg.proofs.runs.goals_of.Given as goal

abbrev pub invariant-loop-part : goal.invariant-loop-part
invariant-loop-part l = l.goals ≡ goals_of (map part_of (take l.part-index l.parts))
