use Rattle.std.proofs.Common.{take}
use Rattle.std.specs.List.{All}
use Rattle.ap_patterns.specs.Given.{patterns}
use Rattle.ap_patterns.specs.Covered.{IsHeld}
use Rattle.ap_certify.proofs.entered.hold_calls.Given as goal

abbrev pub invariant-loop-i : goal.invariant-loop-i
invariant-loop-i l = All (IsHeld (patterns l.table)) (take l.i l.calls)
