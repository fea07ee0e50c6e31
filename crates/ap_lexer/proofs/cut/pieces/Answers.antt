use Rattle.std.proofs.Common.{◌≡◌, ◌+◌, ◌++◌, None, refl, ap, sym, subst, ◌∙◌, drop, arith}
use Rattle.std.specs.Prelude.{count_by, ◌==◌, All}
use Rattle.ap_lexer.specs.Lexeme.{lexeme}
use Rattle.ap_lexer.specs.Piece.{pieces, ended_by, role, begun_after}
use Rattle.ap_lexer.specs.Law.{LieInOrder, IsPieceOf}
use Rattle.ap_lexer.proofs.Order.{in_order, placed}
use Rattle.ap_lexer.proofs.Turn.{turned, ended_at, line_more, feeds_few}
use Rattle.ap_lexer.proofs.cut.pieces.Goals as goal

pub loop-at-preserved : goal.loop-at-preserved
loop-at-preserved c =
    let text = c.args.text.now in
    let inv = c.loop-at.invariant in
    let at = c.loop-at.at in
    let b = inv.rest_is.0 in
    let x = c.lexeme-kind.result in
    let is : x ≡ lexeme (drop at text) = c.lexeme-kind.ensures.value in
    let began = c.start-from.ensures.start text b inv.rest_is.1 inv.line_is in
    let given = c.ended.ensures.piece text at began.1 inv.line_is ∙ ap (λ f. ended_by (role x.0) text f at (at + x.1)) began.0 in
    let new = c.in_ok-put.ensures ∙ ap (λ l. c.loop-at.out.items ++ l) given in
    let fed = c.feeds.ensures ∙ ap (count_by (λ y. y == 10)) c.span.ensures in
    record {
      in_range = c.lexeme-kind.ensures.within.1;
      sound = c.lexeme-kind.ensures.sound;
      line_is = omega (arith, inv.line_is, fed, line_more text at x.1);
      line_low = omega (arith, inv.line_low, fed, feeds_few text at x.1);
      rest_is = (begun_after (role x.0) b at, c.begun_after-begun.ensures.begun text b at inv.rest_is.1 began.0 began.1, turned text at b c.loop-at.out.items c.put.new.out.items (pieces text) x c.loop-at-test.true c.lexeme-kind.ensures.within.0 is new inv.rest_is.2);
    }

pub returns-clause-pieces : goal.returns-clause-pieces
returns-clause-pieces c =
    let text = c.args.text.now in
    let inv = c.loop-at.invariant in
    ended_at text c.loop-at.at inv.rest_is.0 c.loop-at.out.items c.put-2.new.out.items (pieces text) c.loop-at-test.false (c.in_ok-put-2.ensures ∙ ap (λ l. c.loop-at.out.items ++ l) (c.unended.ensures.piece text inv.rest_is.0 inv.rest_is.1)) inv.rest_is.2

pub returns-clause-order : goal.returns-clause-order
returns-clause-order c = subst (LieInOrder 0) (sym (returns-clause-pieces c)) (in_order c.args.text.now)

pub returns-clause-places : goal.returns-clause-places
returns-clause-places c = subst (All (IsPieceOf c.args.text.now)) (sym (returns-clause-pieces c)) (placed c.args.text.now)

pub loop-at-init : goal.loop-at-init
loop-at-init c = record {
  in_range = omega arith;
  sound = c.new-ahead.ensures c.args.text.now;
  line_is = refl;
  line_low = omega arith;
  rest_is = (None, tt, ap (λ l. l ++ pieces c.args.text.now) c.new-out.ensures.items);
}
