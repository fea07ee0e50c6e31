use Rattle.std.proofs.Common.{◌≡◌, ◌++◌, drop}
use Rattle.ap_alike.proofs.fitting.copy_checks.Given as goal

abbrev pub invariant-loop-check : goal.invariant-loop-check
invariant-loop-check l = l.copy ++ drop l.check-index l.check-items ≡ l.check-items
