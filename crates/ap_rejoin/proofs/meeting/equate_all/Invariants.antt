use Rattle.std.proofs.Common.{◌≡◌, ◌+◌, length}
use Rattle.ap_cells.specs.Store.{Keeps}
use Rattle.ap_match.specs.Fits.{Becomes}
use Rattle.ap_rejoin.specs.Meets.{AreEqual}
use Rattle.ap_rejoin.proofs.meeting.equate_all.Given as goal

abbrev pub invariant-loop-place : goal.invariant-loop-place
invariant-loop-place l = record {
  at : l.at ≡ l.first + l.place-index;
  becomes : Becomes l.fn.cells.cells l.cells.cells (AreEqual l.places l.first l.place-index) (λ k. Unit {0});
  len : length l.cells.cells ≡ length l.fn.cells.cells;
  keeps : Keeps l.fn.cells l.cells;
}
