use Rattle.std.proofs.Common.{◌≡◌, ◌+◌, ◌-◌, ◌≤◌, ◌++◌, map, length, drop}
use Rattle.ap_lexer.specs.Lexeme.{lexemes}
use Rattle.ap_lexer.specs.Piece.{line_at}
use Rattle.ap_lexer.specs.Token.{tokens_from, tokens, view}
use Rattle.ap_lexer.specs.Ahead.{IsSound}
use Rattle.ap_lexer.specs.Law.{IsPieceOf}
use Rattle.ap_lexer.proofs.split.tokens.Given as goal

abbrev pub invariant-loop-at : goal.invariant-loop-at
invariant-loop-at l = record {
  is_piece : IsPieceOf l.text l.piece;
  in_range : l.at ≤ length l.text;
  sound : IsSound l.text l.ahead;
  line_is : l.line ≡ line_at l.text l.at;
  line_low : l.line ≤ l.at + 1;
  rest_is : map view l.out.items ++ tokens_from l.text l.at l.piece.to (lexemes (drop l.at l.text)) ≡ tokens l.text l.piece;
}

abbrev pub decreases-loop-at : goal.decreases-loop-at
decreases-loop-at l = length l.text - l.at
