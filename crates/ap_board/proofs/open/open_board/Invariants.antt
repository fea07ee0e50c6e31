use Rattle.std.proofs.Common.{◌≡◌, ◌+◌, length}
use Rattle.ap_board.specs.Rows.{AreNext, seats_of}
use Rattle.ap_board.proofs.open.open_board.Given as goal

abbrev pub invariant-loop-i : goal.invariant-loop-i
invariant-loop-i g l = record {
  places : AreNext l.table.shared.table_id l.pads l.i l.places.items;
  count : l.i + length l.places.items ≡ l.workers;
  seats : l.seats.items ≡ seats_of l.table.shared.table_id l.workers l.pads l.i;
}
