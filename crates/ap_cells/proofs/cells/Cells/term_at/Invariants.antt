use Rattle.std.proofs.Common.{◌≡◌, ◌+◌, length}
use Rattle.ap_cells.specs.Trees.{tree_at, trees}
use Rattle.ap_cells.specs.Walks.{Each}
use Rattle.ap_cells.specs.Built.{IsFrame, IsTurn, closed, turned, weight_turn, weight_frames}
use Rattle.ap_cells.proofs.cells.Cells.term_at.Given as goal

abbrev pub invariant-loop-turn : goal.invariant-loop-turn
invariant-loop-turn l = record {
  built : closed (trees l.self.cells) l.frames.items (turned (trees l.self.cells) l.turn) ≡ tree_at (trees l.self.cells) l.place;
  turn : IsTurn (length l.self.cells) l.turn;
  frames : Each (IsFrame (length l.self.cells)) l.frames.items;
}

abbrev pub decreases-loop-turn : goal.decreases-loop-turn
decreases-loop-turn l = weight_frames (trees l.self.cells) l.frames.items + weight_turn (trees l.self.cells) l.turn
