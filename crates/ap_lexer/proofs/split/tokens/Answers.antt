use Rattle.std.proofs.Common.{◌≡◌, ◌<◌, ◌++◌, map, ap, sym, ◌∙◌, length, drop, take, arith, rules, length-take-le, length-drop}
use Rattle.std.specs.Prelude.{count_by, ◌==◌}
use Rattle.ap_lexer.specs.Token.{tokens, token_of, view}
use Rattle.ap_lexer.proofs.Turn.{line_more, feeds_few}
use Rattle.ap_lexer.proofs.Toks.{turned, ended_past}
use Rattle.ap_lexer.proofs.Order.{is_piece}
use Rattle.ap_lexer.proofs.split.tokens.Goals as goal

pub loop-at-init : goal.loop-at-init
loop-at-init c =
    let p = is_piece c.args.text.now c.args.piece.now c.requires in
    record {
      is_piece = p;
      in_range = omega (arith, p.some, p.within);
      sound = c.new-ahead.ensures c.args.text.now;
      line_is = p.line_is;
      line_low = omega (arith, p.line_is, feeds_few c.args.text.now 0 c.args.piece.now.from);
      rest_is = ap (λ l. map view l ++ tokens c.args.text.now c.args.piece.now) c.in-Ok.ensures.items;
    }

pub loop-at-preserved : goal.loop-at-preserved
loop-at-preserved c =
    let text = c.args.text.now in
    let inv = c.loop-at.invariant in
    let at = c.loop-at.at in
    let x = c.lexeme-kind.result in
    let here : at < length text = omega (arith, c.loop-at-test.true, inv.is_piece.within) in
    let spelling = c.span-spelling.result.now in
    let long : length spelling ≡ x.1 = ap length c.span-spelling.ensures ∙ length-take-le x.1 (drop at text) (omega (arith, c.lexeme-kind.ensures.within, length-drop at text)) in
    let fed = c.feeds.ensures ∙ ap (count_by (λ y. y == 10)) c.span-spelling.ensures in
    let new = c.in_ok-add_token.ensures text (c.span-spelling.ensures ∙ ap (λ n. take n (drop at text)) (sym long)) inv.line_is ∙ ap (λ n. map view c.loop-at.out.items ++ token_of x.0 text at n) long in
    record {
      is_piece = inv.is_piece;
      in_range = c.lexeme-kind.ensures.within.1;
      sound = c.lexeme-kind.ensures.sound;
      line_is = omega (arith, inv.line_is, fed, line_more text at x.1);
      line_low = omega (arith, inv.line_low, fed, feeds_few text at x.1);
      rest_is = turned text at c.args.piece.now.to (map view c.loop-at.out.items) (map view c.add_token.new.out.items) (tokens text c.args.piece.now) x here c.loop-at-test.true c.lexeme-kind.ensures.within.0 c.lexeme-kind.ensures.value new inv.rest_is;
    }

pub returns-clause-ok : goal.returns-clause-ok
returns-clause-ok c = (search rules, ended_past c.args.text.now c.loop-at.at c.args.piece.now.to (map view c.loop-at.out.items) (tokens c.args.text.now c.args.piece.now) c.loop-at-test.false c.loop-at.invariant.rest_is)
