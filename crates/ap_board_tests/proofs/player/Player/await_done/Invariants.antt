use Rattle.std.proofs.Common.{◌≡◌}
use Rattle.ap_board_tests.proofs.player.Player.await_done.Given as goal

abbrev pub invariant-loop : goal.invariant-loop
invariant-loop g l = l.self ≡ l.initial.self
