use Rattle.std.proofs.Common.{◌≡◌, take}
use Rattle.ap_reach.specs.Reached.{gathered}
use Rattle.ap_reach.proofs.reaching.gather.Given as goal

abbrev pub invariant-loop-call : goal.invariant-loop-call
invariant-loop-call l = l.part ≡ gathered l.calls (take l.call-index l.calls) l.program
