use Rattle.std.proofs.Common.{◌≡◌, drop}
use Rattle.ap_lexer.specs.Lexeme.{Text}
use Rattle.ap_lexer.specs.Piece.{line_at, pieces_behind}
use Rattle.ap_lexer.specs.Cutter.{Stands, Cuts, text_of, left}
use Rattle.ap_reader.specs.Build.{Extends}
use Rattle.ap_clause.specs.Verdict.{position, AreCounted}
use Rattle.ap_clause.specs.Parts.{LeadsTo}
use Rattle.ap_clause.proofs.read.take_until.Given as goal

abbrev pub invariant-loop-turn : goal.invariant-loop-turn
invariant-loop-turn l = record {
  text_is : text_of l.cutter ≡ l.text;
  before_is : l.cutter.before ≡ l.spot.at;
  stands : Stands l.cutter;
  reads : (whole : Text) → l.text ≡ drop l.spot.at whole → l.spot.line ≡ line_at whole l.spot.at
      → Cuts whole l.cutter × LeadsTo whole (pieces_behind whole l.spot.at) (position l.fn.atoms l.fn.counts) l.fn.rules.items (left whole l.cutter) (position l.atoms l.counts) l.rules.items;
  counted : AreCounted l.rules.items l.counts l.atoms;
  grows : Extends l.fn.atoms l.atoms;
}
