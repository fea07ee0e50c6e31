use Rattle.std.proofs.Common.{◌≡◌, ◌+◌, drop}
use Rattle.ap_sharing.specs.VarSet.{union}
use Rattle.ap_patterns.specs.AfterCall.{grounded}
use Rattle.ap_patterns.proofs.returns.grounded.Given as goal

abbrev pub invariant-loop-i : goal.invariant-loop-i
invariant-loop-i l = union l.found (grounded (l.i + 1) l.success (drop l.i l.args)) ≡ union l.initial.found (grounded 1 l.success l.args)
