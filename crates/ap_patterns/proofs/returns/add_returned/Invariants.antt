use Rattle.std.proofs.Common.{◌≡◌, ◌++◌, drop}
use Rattle.ap_patterns.specs.AfterCall.{returned_sets}
use Rattle.ap_patterns.proofs.returns.add_returned.Given as goal

abbrev pub invariant-loop-s : goal.invariant-loop-s
invariant-loop-s l = l.returned.items ++ returned_sets l.args l.success (drop l.s-index l.s-items) ≡ returned_sets l.args l.success l.closed
