use Rattle.std.proofs.Common.{◌≡◌, ◌+◌, ◌≤◌, map, max, length}
use Rattle.ap_lexer.specs.Token.{view}
use Rattle.ap_reader.specs.Bracket.{most_open}
use Rattle.ap_reader.proofs.bracket.most_open.Given as goal

abbrev pub invariant-loop-left : goal.invariant-loop-left
invariant-loop-left l = record {
  most_is : max l.most (most_open l.open (map view l.left)) ≡ most_open 0 (map view l.tokens);
  below : l.open ≤ l.most;
  room : l.open + length l.left ≤ length l.tokens;
}

abbrev pub decreases-loop-left : goal.decreases-loop-left
decreases-loop-left l = length l.left
