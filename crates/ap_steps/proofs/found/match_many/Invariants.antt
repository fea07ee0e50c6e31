use Rattle.std.proofs.Common.{◌≡◌, ℕ, ◌+◌, ◌≤◌, length}
use Rattle.ap_cells.specs.Store.{Keeps}
use Rattle.ap_instr.specs.Steps.{steps_from}
use Rattle.ap_steps.specs.Moves.{held, HoldPlaces}
use Rattle.ap_steps.specs.Found.{MovesInside}
use Rattle.ap_steps.specs.Ways.{NoneOfControl}
use Rattle.ap_steps.proofs.found.match_many.Given as goal

abbrev pub invariant-loop-instr : goal.invariant-loop-instr
invariant-loop-instr l = record {
  matched : (m : ℕ) → l.count ≡ l.instr-index + m → MovesInside l.fn.cells.cells (held l.fn.x) (held l.fn.y) (steps_from l.code l.at) l.first l.count l.cells.cells (held l.x) (held l.y) (steps_from l.code (l.at + l.instr-index)) (l.first + l.instr-index) m;
  passed : NoneOfControl l.code.instructions l.at l.instr-index;
  inside : l.at + l.instr-index ≤ length l.code.instructions;
  place : l.place ≡ l.first + l.instr-index;
  few : l.instr-index ≤ l.count;
  longer : length l.fn.cells.cells ≤ length l.cells.cells;
  holds_x : HoldPlaces (length l.cells.cells) l.x;
  holds_y : HoldPlaces (length l.cells.cells) l.y;
  x_len : length l.x ≡ length l.fn.x;
  y_len : length l.y ≡ length l.fn.y;
  spare : l.cells.spare ≡ l.fn.cells.spare;
  keeps : Keeps l.fn.cells l.cells;
}
