use Rattle.std.proofs.Common.{◌≡◌}
use Rattle.ap_board_tests.proofs.crowd.end_all.Given as goal

abbrev pub invariant-loop-i : goal.invariant-loop-i
invariant-loop-i g l = l.me ≡ l.initial.me
