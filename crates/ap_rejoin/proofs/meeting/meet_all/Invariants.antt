use Rattle.ap_cells.specs.Store.{Keeps}
use Rattle.ap_match.specs.Fits.{Becomes}
use Rattle.ap_rejoin.proofs.Together.{MeetFirst}
use Rattle.ap_rejoin.proofs.meeting.meet_all.Given as goal

abbrev pub invariant-loop-i : goal.invariant-loop-i
invariant-loop-i l = record {
  becomes : Becomes l.fn.cells.cells l.cells.cells (MeetFirst l.goals l.answers l.i) (λ k. Unit {0});
  keeps : Keeps l.fn.cells l.cells;
}
