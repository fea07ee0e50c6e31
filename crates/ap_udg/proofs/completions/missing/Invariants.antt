use Rattle.std.proofs.Common.{◌≡◌, not, take}
use Rattle.std.specs.List.{filter}
use Rattle.ap_certify.specs.Written.{is_written}
use Rattle.ap_udg.proofs.completions.missing.Given as goal

abbrev pub invariant-loop-check : goal.invariant-loop-check
invariant-loop-check l = l.missing ≡ filter (λ c. not (is_written c l.written)) (take l.check-index l.check-items)
