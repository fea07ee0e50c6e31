use Rattle.std.proofs.Common.{◌≡◌, ℕ, ◌+◌, ◌-◌, ◌≤◌, true, false, length}
use Rattle.ap_cells.specs.Store.{Keeps}
use Rattle.ap_instr.specs.Steps.{steps_from}
use Rattle.ap_needs.specs.Needs.{has_value}
use Rattle.ap_steps.specs.Moves.{held, HoldPlacesBut}
use Rattle.ap_steps.specs.Arguments.{BuiltAll, KeepTrees, StandApart}
use Rattle.ap_steps.specs.Ways.{NoneOfControl}
use Rattle.ap_steps.proofs.arguments.build_many.Given as goal

abbrev pub invariant-loop-instr : goal.invariant-loop-instr
invariant-loop-instr l = record {
  built : BuiltAll l.instr-index l.fn.cells.cells (held l.fn.x) (held l.fn.y) (steps_from l.code l.at) l.cells.cells (held l.x) (held l.y) (steps_from l.code (l.at + l.instr-index));
  passed : NoneOfControl l.code.instructions l.at l.instr-index;
  value : l.values ≡ true → has_value l.code.instructions l.at l.instr-index ≡ true;
  fresh : l.values ≡ false → StandApart l.fn.cells.cells l.cells.cells;
  stays : KeepTrees l.fn.cells.cells l.cells.cells;
  few : l.instr-index ≤ l.count;
  end : l.instr-index ≤ l.end - l.at;
  inside : l.at + l.instr-index ≤ length l.code.instructions;
  holds_x : (whole : ℕ) → HoldPlacesBut whole (length l.fn.cells.cells) l.fn.x → HoldPlacesBut whole (length l.cells.cells) l.x;
  holds_y : (whole : ℕ) → HoldPlacesBut whole (length l.fn.cells.cells) l.fn.y → HoldPlacesBut whole (length l.cells.cells) l.y;
  x_len : length l.x ≡ length l.fn.x;
  y_len : length l.y ≡ length l.fn.y;
  spare : l.cells.spare + l.instr-index ≡ l.fn.cells.spare;
  keeps : Keeps l.fn.cells l.cells;
}
