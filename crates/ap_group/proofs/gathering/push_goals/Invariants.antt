use Rattle.std.proofs.Common.{◌≡◌, length}
use Rattle.ap_cells.specs.Store.{Keeps}
use Rattle.ap_instr.specs.Steps.{steps_from}
use Rattle.ap_steps.specs.Moves.{held, HoldPlaces}
use Rattle.ap_group.specs.Gathers.{Gathers}
use Rattle.ap_group.specs.Turns.{AreReady}
use Rattle.ap_group.proofs.gathering.push_goals.Given as goal

abbrev pub invariant-loop : goal.invariant-loop
invariant-loop l = record {
  gathers : Gathers l.sound l.fn.cells.cells (held l.fn.x) (held l.fn.y) (steps_from l.sound l.from) l.cells.cells (held l.x) (held l.y) (steps_from l.sound l.place) l.goals;
  ready : AreReady l.sound (length l.cells.cells) l.goals;
  holds_x : HoldPlaces (length l.cells.cells) l.x;
  holds_y : HoldPlaces (length l.cells.cells) l.y;
  x_len : length l.x ≡ length l.fn.x;
  y_len : length l.y ≡ length l.fn.y;
  keeps : Keeps l.fn.cells l.cells;
}
