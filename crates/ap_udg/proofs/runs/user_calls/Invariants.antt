use Rattle.std.proofs.Common.{◌≡◌, true, take, map}
use Rattle.std.specs.List.{list_all}
use Rattle.ap_term.specs.GoalView.{part_of}
use Rattle.ap_udg.specs.Runs.{is_user_call}
use Rattle.ap_udg.proofs.runs.user_calls.Given as goal

abbrev pub invariant-loop-i : goal.invariant-loop-i
invariant-loop-i l = list_all is_user_call (take l.i (map part_of l.parts)) ≡ true
