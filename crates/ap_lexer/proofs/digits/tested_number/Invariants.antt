use Rattle.std.proofs.Common.{◌≡◌, ◌≤◌, ◌^◌, drop}
use Rattle.ap_lexer.specs.Lexeme.{number_from, number}
use Rattle.ap_lexer.proofs.digits.tested_number.Given as goal

abbrev pub invariant-loop-b : goal.invariant-loop-b
invariant-loop-b l = (number_from l.number (drop l.b-index l.digits) ≡ number l.digits) × (l.number ≤ 2 ^ 63)
