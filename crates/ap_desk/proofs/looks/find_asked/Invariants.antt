use Rattle.std.proofs.Common.{◌≡◌}
use Rattle.ap_desk.proofs.Looking.{Seen}
use Rattle.ap_desk.proofs.looks.find_asked.Given as goal

abbrev pub invariant-loop-i : goal.invariant-loop-i
invariant-loop-i g l = (l.seat.0 ≡ l.initial.seat.0) × Seen l.initial.seat.1 l.tickets l.i l.seat.1
