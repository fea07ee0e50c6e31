use Rattle.std.proofs.Common.{◌≡◌, ◌+◌, ◌-◌, ◌≤◌, map, length}
use Rattle.ap_lexer.specs.Lexeme.{Text}
use Rattle.ap_lexer.specs.Token.{view}
use Rattle.ap_lexer.specs.Ahead.{IsSound}
use Rattle.ap_lexer.specs.Piece.{BeganIn}
use Rattle.ap_lexer.specs.Cutter.{Cuts, IsKept}
use Rattle.ap_lexer.proofs.NextPiece.{Goes}
use Rattle.ap_lexer.proofs.cutter.Cutter.next.Given as goal

abbrev pub invariant-loop-self : goal.invariant-loop-self
invariant-loop-self l = record {
  same : l.self.text.now ≡ l.text;
  there : l.self.before ≡ l.before;
  in_range : l.self.at ≤ length l.text;
  sound : IsSound l.text l.self.ahead;
  line_low : l.self.line ≤ l.before + l.self.at + 1;
  began : BeganIn l.before (l.before + l.self.at) l.begun;
  goes : (whole : Text) → Cuts whole l.fn.self → Goes whole l.fn.self (l.before + l.self.at) l.self.line l.begun (IsKept l.out.items) (map view l.out.items);
}

abbrev pub decreases-loop-self : goal.decreases-loop-self
decreases-loop-self l = length l.text - l.self.at
