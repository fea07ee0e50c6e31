use Rattle.std.proofs.Common.{◌≡◌, ◌+◌, length}
use Rattle.ap_term.specs.Arithmetic.{evaluated}
use Rattle.ap_cells.specs.Trees.{tree_at, trees}
use Rattle.ap_cells.specs.Walks.{Each}
use Rattle.ap_arith.specs.Valued.{IsFrame, IsTurn, valued, turned, weight_turn, weight_frames}
use Rattle.ap_arith.proofs.evaluation.run.Given as goal

abbrev pub invariant-loop-turn : goal.invariant-loop-turn
invariant-loop-turn l = record {
  value : valued (trees l.cells.cells) l.frames.items (turned (trees l.cells.cells) l.turn) ≡ evaluated (tree_at (trees l.cells.cells) l.place);
  turn : IsTurn (length l.cells.cells) l.turn;
  frames : Each (IsFrame (length l.cells.cells)) l.frames.items;
}

abbrev pub decreases-loop-turn : goal.decreases-loop-turn
decreases-loop-turn l = weight_frames (trees l.cells.cells) l.frames.items + weight_turn (trees l.cells.cells) l.turn
