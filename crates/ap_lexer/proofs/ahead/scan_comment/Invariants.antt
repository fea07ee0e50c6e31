use Rattle.std.proofs.Common.{◌≡◌, ◌+◌, length, drop, false}
use Rattle.ap_lexer.specs.Lexeme.{comment_end}
use Rattle.ap_lexer.proofs.ahead.scan_comment.Given as goal

abbrev pub invariant-loop-rest : goal.invariant-loop-rest
invariant-loop-rest l = (comment_end l.star l.at l.rest ≡ comment_end false l.from (drop l.from l.text)) × (l.at + length l.rest ≡ length l.text)

abbrev pub decreases-loop-rest : goal.decreases-loop-rest
decreases-loop-rest l = length l.rest
