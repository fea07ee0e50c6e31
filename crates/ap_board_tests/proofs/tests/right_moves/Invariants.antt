use Rattle.std.proofs.Common.{◌≡◌}
use Rattle.ap_board_tests.proofs.tests.right_moves.Given as goal

abbrev pub invariant-loop-i : goal.invariant-loop-i
invariant-loop-i l = (l.a ≡ l.board.table.shared.table_id) × (l.b ≡ l.board.table.shared.table_id) × (l.c ≡ l.board.table.shared.table_id)
