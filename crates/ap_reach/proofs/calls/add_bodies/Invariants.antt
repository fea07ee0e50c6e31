use Rattle.std.proofs.Common.{take}
use Rattle.ap_reach.specs.Reached.{Extends, CallsAmong}
use Rattle.ap_reach.proofs.calls.add_bodies.Given as goal

abbrev pub invariant-loop-clause : goal.invariant-loop-clause
invariant-loop-clause l = Extends l.fn.calls l.calls × CallsAmong l.program l.calls (take l.clause-index l.clauses)
