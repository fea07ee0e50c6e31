use Rattle.std.proofs.Common.{◌≡◌, ◌+◌, ◌<◌, length, drop}
use Rattle.ap_lexer.specs.Lexeme.{recovered}
use Rattle.ap_lexer.proofs.recognize.recovered.Given as goal

abbrev pub invariant-loop-rest : goal.invariant-loop-rest
invariant-loop-rest l = (recovered l.at l.rest ≡ recovered 1 (drop 1 l.text)) × (l.at + length l.rest ≡ length l.text) × (0 < l.at)

abbrev pub decreases-loop-rest : goal.decreases-loop-rest
decreases-loop-rest l = length l.rest
