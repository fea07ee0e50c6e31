use Rattle.std.proofs.Common.{take}
use Rattle.ap_reach.specs.Reached.{Extends, CallsAmong, all_called}
use Rattle.ap_reach.proofs.reaching.find.Given as goal

abbrev pub invariant-loop-number : goal.invariant-loop-number
invariant-loop-number l = Extends l.fn.calls l.calls × CallsAmong l.program l.calls (all_called (take l.number l.calls) l.program)
