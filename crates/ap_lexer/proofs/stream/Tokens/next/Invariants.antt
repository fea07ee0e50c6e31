use Rattle.std.proofs.Common.{◌-◌, ◌≡◌, ◌≤◌, List}
use Rattle.ap_lexer.specs.Token.{Placed}
use Rattle.ap_lexer.specs.Stream.{Stands, Gives}
use Rattle.ap_lexer.proofs.stream.Tokens.next.Given as goal

abbrev pub invariant-loop-self : goal.invariant-loop-self
invariant-loop-self l = record {
  stands : Stands l.self;
  further : l.initial.self.at ≤ l.self.at;
  same : l.self.to ≡ l.initial.self.to;
  gives : (ts : List Placed) → Gives l.initial.self ts → Gives l.self ts;
}

abbrev pub decreases-loop-self : goal.decreases-loop-self
decreases-loop-self l = l.self.to - l.self.at
