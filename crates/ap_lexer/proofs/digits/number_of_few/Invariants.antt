use Rattle.std.proofs.Common.{◌≡◌, drop}
use Rattle.ap_lexer.specs.Lexeme.{number_from, number}
use Rattle.ap_lexer.proofs.digits.number_of_few.Given as goal

abbrev pub invariant-loop-b : goal.invariant-loop-b
invariant-loop-b l = number_from l.number (drop l.b-index l.digits) ≡ number l.digits
