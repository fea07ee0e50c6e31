use Rattle.std.proofs.Common.{◌≡◌, ◌-◌, ◌≤◌, drop}
use Rattle.ap_lexer.specs.Lexeme.{closing}
use Rattle.ap_lexer.proofs.ahead.run.Given as goal

abbrev pub invariant-loop-at : goal.invariant-loop-at
invariant-loop-at l = (closing l.here l.at (drop l.at l.text) ≡ closing l.fn.state l.from (drop l.from l.text)) × (l.at ≤ l.to)

abbrev pub decreases-loop-at : goal.decreases-loop-at
decreases-loop-at l = l.to - l.at
