use Rattle.std.proofs.Common.{◌≡◌, drop}
use Rattle.ap_outside.specs.Calls.{takes_at}
use Rattle.ap_outside.proofs.mem_sink.refusal_of.Given as goal

abbrev pub invariant-loop-refusal : goal.invariant-loop-refusal
invariant-loop-refusal l = takes_at (drop l.refusal-index l.refusals) l.call ≡ takes_at l.refusals l.call
