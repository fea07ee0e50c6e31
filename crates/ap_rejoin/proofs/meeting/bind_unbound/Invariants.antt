use Rattle.std.proofs.Common.{◌≡◌, ℕ, ◌+◌, ◌<◌, length}
use Rattle.ap_cells.specs.Store.{Keeps}
use Rattle.ap_cells.specs.Trees.{tree_at, trees}
use Rattle.ap_rejoin.specs.Meets.{AreEqual, Narrows}
use Rattle.ap_rejoin.proofs.meeting.bind_unbound.Given as goal

abbrev pub invariant-loop-place : goal.invariant-loop-place
invariant-loop-place l = record {
  at : l.root ≡ l.first + l.place-index;
  narrows : Narrows l.fn.cells.cells l.cells.cells (AreEqual l.places l.first (length l.places));
  roots : (j : ℕ) → j < length l.places → tree_at (trees l.cells.cells) (l.first + j) ≡ tree_at (trees l.fn.cells.cells) (l.first + j);
  keeps : Keeps l.fn.cells l.cells;
}
