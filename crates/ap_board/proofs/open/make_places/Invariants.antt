use Rattle.std.proofs.Common.{◌≡◌, ◌+◌, [], length}
use Rattle.ap_board.specs.Rule.{view_of}
use Rattle.ap_board.specs.Rows.{AreNext}
use Rattle.ap_board.proofs.open.make_places.Given as goal

abbrev pub invariant-loop : goal.invariant-loop
invariant-loop g l = record {
  table : l.leader.table_id ≡ l.words.table_id;
  leader : l.leader.me ≡ (view_of 0 l.initial.leader.me.0.pads l.counter [] [], []);
  places : AreNext l.words.table_id l.initial.leader.me.0.pads 1 l.places.items;
  count : length l.places.items + 1 ≡ l.counter;
}
