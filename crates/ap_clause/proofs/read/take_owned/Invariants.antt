use Rattle.std.proofs.Common.{◌≡◌, ◌≤◌, ◌+◌, [], length, drop, vec_len}
use Rattle.ap_lexer.specs.Piece.{line_at, pieces, pieces_behind}
use Rattle.ap_reader.specs.Build.{Extends}
use Rattle.ap_clause.specs.Reads.{start}
use Rattle.ap_clause.specs.Verdict.{position, AreCounted}
use Rattle.ap_clause.specs.Parts.{LeadsTo}
use Rattle.ap_clause.proofs.read.take_owned.Given as goal

abbrev pub invariant-loop-next : goal.invariant-loop-next
invariant-loop-next l = record {
  rest_is : l.rest.items ≡ drop l.spot.at l.fn.text.items;
  within : l.spot.at ≤ length l.fn.text.items;
  line_is : l.spot.line ≡ line_at l.fn.text.items l.spot.at;
  line_low : l.spot.line ≤ l.spot.at + 1;
  leads : LeadsTo l.fn.text.items (pieces l.fn.text.items) (start l.fn.atoms) [] (pieces_behind l.fn.text.items l.spot.at) (position l.atoms l.counts) l.rules.items;
  counted : AreCounted l.rules.items l.counts l.atoms;
  grows : Extends l.fn.atoms l.atoms;
}

abbrev pub decreases-loop-next : goal.decreases-loop-next
decreases-loop-next l = vec_len l.rest
