use Rattle.std.proofs.Common.{◌≡◌}
use Rattle.ap_board_tests.proofs.crowd.offer_some.Given as goal

abbrev pub invariant-loop-next : goal.invariant-loop-next
invariant-loop-next l = l.me ≡ l.initial.me
