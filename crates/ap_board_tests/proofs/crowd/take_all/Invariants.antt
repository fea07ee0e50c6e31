use Rattle.std.proofs.Common.{◌≡◌}
use Rattle.ap_board_tests.proofs.crowd.take_all.Given as goal

abbrev pub invariant-loop-pad : goal.invariant-loop-pad
invariant-loop-pad l = l.me ≡ l.initial.me
