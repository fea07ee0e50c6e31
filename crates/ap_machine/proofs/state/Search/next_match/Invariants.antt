use Rattle.std.proofs.Common.{length}
use Rattle.ap_standing.specs.Machine.{places_from}
use Rattle.ap_machine.specs.Choices.{Returned, LeavesOut}
use Rattle.ap_machine.proofs.state.Search.next_match.Given as goal

abbrev pub decreases-loop-found : goal.decreases-loop-found
decreases-loop-found l = length (places_from l.sound l.rest)

abbrev pub invariant-loop-found : goal.invariant-loop-found
invariant-loop-found l = record { back : Returned l.fn.self l.self; left : LeavesOut l.sound l.fn.self.machine (places_from l.sound l.fn.behind) (places_from l.sound l.rest) }
