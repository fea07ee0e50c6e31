use Rattle.std.proofs.Common.{◌≡◌, ◌≤◌, ◌-◌, List, max}
use Rattle.ap_lexer.specs.Token.{Placed}
use Rattle.ap_lexer.specs.Stream as stream
use Rattle.ap_reader.specs.Bracket.{most_open}
use Rattle.ap_reader.proofs.long.are_too_open.Given as goal

abbrev pub invariant-loop-token : goal.invariant-loop-token
invariant-loop-token l = record {
  stands : stream.Stands l.tokens;
  few : l.open ≤ l.tokens.at;
  low : l.open ≤ l.most;
  counts : (ts : List Placed) → stream.Gives l.fn.tokens ts → (left : List Placed) × stream.Gives l.tokens left × (max l.most (most_open l.open left) ≡ most_open 0 ts);
}

abbrev pub decreases-loop-token : goal.decreases-loop-token
decreases-loop-token l = l.tokens.to - l.tokens.at
