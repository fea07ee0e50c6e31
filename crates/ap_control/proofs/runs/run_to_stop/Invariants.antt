use Rattle.std.proofs.Common.{◌≡◌, ◌≤◌, ◌-◌, true, length, drop}
use Rattle.ap_cells.specs.Store.{Keeps}
use Rattle.ap_needs.specs.Needs.{room, wants}
use Rattle.ap_control.specs.Runs.{Ran}
use Rattle.ap_control.proofs.runs.run_to_stop.Given as goal

abbrev pub decreases-run : goal.decreases-run
decreases-run l = length l.code.instructions - l.place

abbrev pub invariant-run : goal.invariant-run
invariant-run l = record {
  forward : l.at ≤ l.place;
  ran : Ran l.code l.at l.fn.cells.cells l.fn.x l.fn.y l.place l.cells.cells l.x l.y;
  room : room (drop l.place l.code.instructions) ≤ l.cells.spare;
  wants : wants (drop l.place l.code.instructions) ≡ true → wants (drop l.at l.code.instructions) ≡ true;
  x_len : length l.x ≡ length l.fn.x;
  y_len : length l.y ≡ length l.fn.y;
  keeps : Keeps l.fn.cells l.cells;
}
