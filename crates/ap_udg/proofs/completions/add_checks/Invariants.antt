use Rattle.std.proofs.Common.{◌≡◌, ◌++◌, take}
use Rattle.ap_udg.proofs.completions.add_checks.Given as goal

abbrev pub invariant-loop-check : goal.invariant-loop-check
invariant-loop-check l = l.out ≡ l.initial.out ++ take l.check-index l.check-items
