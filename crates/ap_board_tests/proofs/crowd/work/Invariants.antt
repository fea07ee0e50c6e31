use Rattle.std.proofs.Common.{◌≡◌}
use Rattle.ap_board_tests.proofs.crowd.work.Given as goal

abbrev pub invariant-loop : goal.invariant-loop
invariant-loop g l = l.me ≡ l.board.table.shared.table_id
