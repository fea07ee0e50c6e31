use Rattle.std.proofs.Common.{◌≡◌, ◌++◌, drop, map}
use Rattle.ap_term.specs.GoalView.{part_of}
use Rattle.ap_term.specs.Goals.{calls}
use Rattle.ap_alike.proofs.fitting.goals_of.Given as goal

abbrev pub invariant-loop-part : goal.invariant-loop-part
invariant-loop-part l = calls l.goals ++ map part_of (drop l.part-index l.parts) ≡ map part_of l.parts
