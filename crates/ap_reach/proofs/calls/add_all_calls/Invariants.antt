use Rattle.std.proofs.Common.{take}
use Rattle.std.specs.List.{All}
use Rattle.ap_reach.specs.Reached.{Extends, BodyIsAmong}
use Rattle.ap_reach.proofs.calls.add_all_calls.Given as goal

abbrev pub invariant-loop-clause : goal.invariant-loop-clause
invariant-loop-clause l = Extends l.fn.calls l.calls × All (λ c. BodyIsAmong l.program l.calls c.now) (take l.clause-index l.clauses)
