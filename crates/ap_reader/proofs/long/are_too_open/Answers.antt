use Rattle.std.proofs.Common.{◌≡◌, max, nat_lt, None, sym, ap, subst, ◌∙◌, arith, rules}
use Rattle.ap_lexer.specs.Token.{view}
use Rattle.ap_lexer.specs.Stream as stream
use Rattle.ap_reader.specs.Bracket.{most_open, open_after}
use Rattle.ap_reader.proofs.Few.{open_le, open_within}
use Rattle.ap_reader.proofs.long.are_too_open.Goals as goal

pub loop-token-preserved : goal.loop-token-preserved
loop-token-preserved c =
    let inv = c.loop-token.invariant in
    let t = view c.in-Some.token in
    let now : c.open_after-open.result ≡ open_after t.kind c.loop-token.open = c.open_after-open.ensures in
    let most = c.max-most.ensures in
    record {
      stands = c.next.ensures.stands;
      few = omega (arith, now, open_le t.kind c.loop-token.open, inv.few, c.in-Some.ensures.further.1);
      low = omega (arith, most);
      counts = λ ts g.
          let before = inv.counts ts g in
          let found = subst (λ r. stream.Follows c.loop-token.tokens r c.next.new.self) c.in-Some.is c.next.ensures.next before.0 before.1 in
          let rest = found.0 in
          let old : max c.loop-token.most (max c.loop-token.open (most_open (open_after t.kind c.loop-token.open) rest)) ≡ most_open 0 ts = ap (λ l. max c.loop-token.most (most_open c.loop-token.open l)) (sym found.1) ∙ before.2 in
          let here : max c.max-most.result (most_open (open_after t.kind c.loop-token.open) rest) ≡ most_open 0 ts = omega (arith, most, now, old, inv.low, open_within (open_after t.kind c.loop-token.open) rest) in
          (rest, found.2, ap (λ n. max c.max-most.result (most_open n rest)) now ∙ here);
    }

pub returns : goal.returns
returns c = λ ts g.
    let inv = c.loop-token.invariant in
    let before = inv.counts ts g in
    let none : c.next.result ≡ None = search rules in
    let empty = subst (λ r. stream.Follows c.loop-token.tokens r c.next.new.self) none c.next.ensures.next before.0 before.1 in
    let last : max c.loop-token.most c.loop-token.open ≡ most_open 0 ts = ap (λ l. max c.loop-token.most (most_open c.loop-token.open l)) (sym empty) ∙ before.2 in
    let same : c.loop-token.most ≡ most_open 0 ts = omega (arith, last, inv.low) in
    ap (nat_lt 1000) same
