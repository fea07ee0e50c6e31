use Rattle.std.proofs.Common.{◌≡◌, ℕ, List}
use Rattle.ap_board.specs.Causes.{noting_all}
use Rattle.ap_board.proofs.board.Board.await_done.Given as goal

abbrev pub invariant-loop : goal.invariant-loop
invariant-loop g l = (l.seat.0 ≡ l.initial.seat.0) × ((ns : List ℕ) × (l.seat.1 ≡ noting_all l.initial.seat.1 l.ticket.pad ns))
