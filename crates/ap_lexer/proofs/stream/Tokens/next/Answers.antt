use Rattle.std.proofs.Common.{◌+◌, refl, ap, arith}
use Rattle.ap_lexer.specs.declared.split.Token.{Token}
use Rattle.ap_lexer.proofs.Turn.{feeds_few}
use Rattle.ap_lexer.proofs.Streaming.{passed, found, none_left}
use Rattle.ap_lexer.proofs.stream.Tokens.next.Goals as goal

pub returns-in-Token-clause-next : goal.returns-in-Token-clause-next
returns-in-Token-clause-next c = λ ts g.
    let s = c.loop-self.self in
    let inv = c.loop-self.invariant in
    let x = c.lexeme-kind.result in
    let t : Token = record { kind = c.in-Token.kind; text = c.span.result; from = s.before + s.at; to = s.before + s.at + x.1; line = s.line } in
    found s _ x t ts
    (record { text = refl; before = refl; to = refl; at = refl; line = ap (λ n. s.line + n) c.feeds_in.ensures; inside = c.loop-self-test.true; end = inv.stands.end; some = c.lexeme-kind.ensures.within.0; is = c.lexeme-kind.ensures.value })
    (record { kind = c.in-Token.is; text = c.span.ensures; from = refl; to = refl; line = refl })
    (inv.gives ts g)

pub loop-self-preserved : goal.loop-self-preserved
loop-self-preserved c =
    let s = c.loop-self.self in
    let inv = c.loop-self.invariant in
    let x = c.lexeme-kind.result in
    record {
      stands = record {
        within = c.lexeme-kind.ensures.within.1;
        end = inv.stands.end;
        sound = c.lexeme-kind.ensures.sound;
        line_low = omega (arith, inv.stands.line_low, c.feeds_in.ensures, feeds_few s.text.now s.at x.1);
        fits = inv.stands.fits;
      };
      further = omega (arith, inv.further);
      same = inv.same;
      gives = λ ts g. passed s _ x ts
          (record { text = refl; before = refl; to = refl; at = refl; line = ap (λ n. s.line + n) c.feeds_in.ensures; inside = c.loop-self-test.true; end = inv.stands.end; some = c.lexeme-kind.ensures.within.0; is = c.lexeme-kind.ensures.value })
          c.in_default.not-Token (inv.gives ts g);
    }

pub returns-clause-next : goal.returns-clause-next
returns-clause-next c = λ ts g. none_left c.loop-self.self ts c.loop-self-test.false (c.loop-self.invariant.gives ts g)
