use Rattle.std.proofs.Common.{◌≡◌, not, take}
use Rattle.std.specs.List.{filter}
use Rattle.ap_conditions.specs.Simplified.{gives}
use Rattle.ap_udg.proofs.completions.left.Given as goal

abbrev pub invariant-loop-check : goal.invariant-loop-check
invariant-loop-check l = l.left ≡ filter (λ c. not (gives l.s c)) (take l.check-index l.check-items)
