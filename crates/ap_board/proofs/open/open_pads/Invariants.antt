use Rattle.std.proofs.Common.{◌≡◌, [], replicate}
use Rattle.ap_board.specs.Rule.{view_of}
use Rattle.ap_board.specs.Seats.{Holds, opens}
use Rattle.ap_board.proofs.open.open_pads.Given as goal

abbrev pub invariant-loop-i : goal.invariant-loop-i
invariant-loop-i g l = record {
  table : l.hand.place.table_id ≡ l.initial.hand.place.table_id;
  view : l.hand.place.me.0 ≡ view_of l.initial.hand.place.me.0.number l.pads l.initial.hand.place.me.0.made (opens l.first l.i) [];
  seat : Holds l.hand.place.me.0 l.hand.order.items (replicate l.i 0) l.first l.words.table_id.slots;
}
