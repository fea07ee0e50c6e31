use Rattle.std.proofs.Common.{◌≡◌, drop, map}
use Rattle.ap_term.specs.GoalView.{part_of}
use Rattle.ap_term.specs.Goals.{plain_goals}
use Rattle.ap_core.specs.Passes.{some_calls}
use Rattle.ap_core.proofs.loud.Loud.are_called_in.Given as goal

abbrev pub invariant-loop-part : goal.invariant-loop-part
invariant-loop-part l = some_calls l.self (plain_goals (map part_of (drop l.part-index l.parts))) ≡ some_calls l.self (plain_goals (map part_of l.parts))
