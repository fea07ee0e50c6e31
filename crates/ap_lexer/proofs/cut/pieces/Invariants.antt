use Rattle.std.proofs.Common.{◌≡◌, ◌+◌, ◌-◌, ◌≤◌, ◌++◌, length, drop, Option, ℕ}
use Rattle.ap_lexer.specs.Lexeme.{lexemes}
use Rattle.ap_lexer.specs.Piece.{Begins, line_at, pieces_from, pieces}
use Rattle.ap_lexer.specs.Ahead.{IsSound}
use Rattle.ap_lexer.proofs.cut.pieces.Given as goal

abbrev pub invariant-loop-at : goal.invariant-loop-at
invariant-loop-at l = record {
  in_range : l.at ≤ length l.text;
  sound : IsSound l.text l.ahead;
  line_is : l.line ≡ line_at l.text l.at;
  line_low : l.line ≤ l.at + 1;
  rest_is : (begun : Option ℕ) × Begins l.text l.begun begun × (l.out.items ++ pieces_from l.text l.at begun (lexemes (drop l.at l.text)) ≡ pieces l.text);
}

abbrev pub decreases-loop-at : goal.decreases-loop-at
decreases-loop-at l = length l.text - l.at
