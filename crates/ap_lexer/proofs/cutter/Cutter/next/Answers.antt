use Rattle.std.proofs.Common.{◌≡◌, ◌+◌, ◌++◌, None, refl, ap, sym, subst, ◌∙◌, map, length, drop, take, arith, length-take-le, length-drop}
use Rattle.std.specs.Prelude.{count_by, ◌==◌}
use Rattle.std.proofs.lemmas.List.{append-nil}
use Rattle.ap_lexer.specs.declared.kind.LexemeKind.TheVariants as kind
use Rattle.ap_lexer.specs.Lexeme.{lexeme}
use Rattle.ap_lexer.specs.Piece.{ended_by, role, begun_after, start, line_at}
use Rattle.ap_lexer.specs.Token.{token_of, view}
use Rattle.ap_lexer.specs.Cutter.{left, IsKept}
use Rattle.ap_lexer.proofs.Turn.{line_more, feeds_few}
use Rattle.ap_lexer.proofs.NextPiece.{Turn, Goes, seen, inside, outside, held_on, open_next, not_ended, stands, next_closed, tokens_closed, of_each, last_next, last_tokens, begun_later, ended_within, unended_within, lines_of, line_closed, line_last}
use Rattle.ap_lexer.proofs.cutter.Cutter.next.Goals as goal

pub loop-self-init : goal.loop-self-init
loop-self-init c = record {
  same = refl;
  there = refl;
  in_range = c.requires.within;
  sound = c.requires.sound;
  line_low = c.requires.line_low;
  goes = λ whole cuts. record { line_is = cuts.line_is; begun = None; begins = tt; left_is = refl; held = λ few. ap (map view) c.clear.ensures.items };
  began = tt;
}

pub lexeme-kind-requires-clause-sound : goal.lexeme-kind-requires-clause-sound
lexeme-kind-requires-clause-sound c = c.loop-self.invariant.sound

pub returns-in_err-add_kept-clause-text : goal.returns-in_err-add_kept-clause-text
returns-in_err-add_kept-clause-text c = c.loop-self.invariant.same

pub returns-then-is_some-clause-text : goal.returns-then-is_some-clause-text
returns-then-is_some-clause-text c = c.loop-self.invariant.same

pub returns-then-is_some-clause-stands : goal.returns-then-is_some-clause-stands
returns-then-is_some-clause-stands c =
    let text = c.args.self.now.text.now in
    let inv = c.loop-self.invariant in
    let at = c.loop-self.self.at in
    let x = c.lexeme-kind.result in
    stands (record { text = c.loop-self.self.text; before = c.loop-self.self.before; ahead = c.lexeme-kind.new.ahead; at = at + x.1; line = c.loop-self.self.line + c.feeds_in.result })
    text c.args.self.now.before inv.same inv.there c.lexeme-kind.ensures.within.1 c.lexeme-kind.ensures.sound
    (omega (arith, inv.line_low, c.feeds_in.ensures, feeds_few text at x.1)) c.requires.fits

pub returns-then-is_some-clause-cuts : goal.returns-then-is_some-clause-cuts
returns-then-is_some-clause-cuts c = λ whole cuts.
    let text = c.args.self.now.text.now in
    let before = c.args.self.now.before in
    let inv = c.loop-self.invariant in
    let at = c.loop-self.self.at in
    let x = c.lexeme-kind.result in
    let goes = inv.goes whole cuts in
    let fed = c.feeds_in.ensures ∙ ap (λ t. count_by (λ b. b == 10) (take x.1 t)) (seen text whole before at cuts.rest) in
    let here : before + at + x.1 ≡ c.loop-self.self.before + (at + x.1) = omega (arith, inv.there) in
    let line : c.loop-self.self.line + c.feeds_in.result ≡ line_at whole (before + at + x.1) = omega (arith, goes.line_is, fed, line_more whole (before + at) x.1) in
    record { rest = inv.same ∙ cuts.rest ∙ ap (λ n. drop n whole) (sym inv.there); line_is = line ∙ ap (line_at whole) here }

pub returns-then-is_some-clause-next : goal.returns-then-is_some-clause-next
returns-then-is_some-clause-next c = λ whole cuts.
    let text = c.args.self.now.text.now in
    let before = c.args.self.now.before in
    let inv = c.loop-self.invariant in
    let at = c.loop-self.self.at in
    let here = before + at in
    let x = c.lexeme-kind.result in
    let goes = inv.goes whole cuts in
    let began = c.start-from.ensures.start whole goes.begun goes.begins goes.line_is in
    let given = c.ended-piece.ensures.piece whole here began.1 goes.line_is ∙ ap (λ f. ended_by (role x.0) whole f here (here + x.1)) began.0 in
    next_closed c.ended-piece.result whole goes.begun here x c.args.self.now
    (record { text = c.loop-self.self.text; before = c.loop-self.self.before; ahead = c.lexeme-kind.new.ahead; at = at + x.1; line = c.loop-self.self.line + c.feeds_in.result })
    (sym c.is_some.ensures ∙ c.if-is_some.true) given (omega (arith, inv.there)) (inside text whole before at cuts.rest c.loop-self-test.true) c.lexeme-kind.ensures.within.0
    (c.lexeme-kind.ensures.value ∙ ap lexeme (seen text whole before at cuts.rest)) goes.left_is

pub returns-then-is_some-clause-tokens : goal.returns-then-is_some-clause-tokens
returns-then-is_some-clause-tokens c = of_each (IsKept c.add_kept.new.out.items) c.args.self.now (map view c.add_kept.new.out.items) c.ended-piece.result (λ whole cuts few.
    let text = c.args.self.now.text.now in
    let before = c.args.self.now.before in
    let inv = c.loop-self.invariant in
    let at = c.loop-self.self.at in
    let here = before + at in
    let x = c.lexeme-kind.result in
    let goes = inv.goes whole cuts in
    let there = seen text whole before at cuts.rest in
    let long : length c.span-spelling.result.now ≡ x.1 = ap length c.span-spelling.ensures ∙ length-take-le x.1 (drop at text) (omega (arith, c.lexeme-kind.ensures.within, length-drop at text)) in
    let kept = c.in_ok-add_kept.ensures whole (c.span-spelling.ensures ∙ ap (take x.1) there ∙ ap (λ n. take n (drop here whole)) (sym long)) goes.line_is few in
    let turn : Turn whole goes.begun here x (map view c.loop-self.out.items) (map view c.add_kept.new.out.items) = record {
      inside = inside text whole before at cuts.rest c.loop-self-test.true;
      some = c.lexeme-kind.ensures.within.0;
      is = c.lexeme-kind.ensures.value ∙ ap lexeme there;
      put = kept.0 ∙ ap (λ n. map view c.loop-self.out.items ++ token_of x.0 whole here n) long;
      held = goes.held kept.1;
    } in
    let began = c.start-from.ensures.start whole goes.begun goes.begins goes.line_is in
    let given = c.ended-piece.ensures.piece whole here began.1 goes.line_is ∙ ap (λ f. ended_by (role x.0) whole f here (here + x.1)) began.0 in
    tokens_closed c.ended-piece.result whole goes.begun here x (map view c.loop-self.out.items) (map view c.add_kept.new.out.items) given turn)

pub loop-self-preserved : goal.loop-self-preserved
loop-self-preserved c =
    let text = c.args.self.now.text.now in
    let before = c.args.self.now.before in
    let inv = c.loop-self.invariant in
    let at = c.loop-self.self.at in
    let here = before + at in
    let x = c.lexeme-kind.result in
    let fed = c.feeds_in.ensures in
    record {
      same = inv.same;
      there = inv.there;
      in_range = c.lexeme-kind.ensures.within.1;
      sound = c.lexeme-kind.ensures.sound;
      line_low = omega (arith, inv.line_low, fed, feeds_few text at x.1);
      began =
          let began = c.start-from.ensures.within before inv.began (omega arith) (omega (arith, inv.line_low)) in
          c.begun_after-begun.ensures.within before (before + (at + x.1)) (begun_later before here (before + (at + x.1)) c.loop-self.begun (omega arith) inv.began) began.0 (omega (arith, began.1)) began.2;
      goes = λ whole cuts.
          let goes = inv.goes whole cuts in
          let there = seen text whole before at cuts.rest in
          let long : length c.span-spelling.result.now ≡ x.1 = ap length c.span-spelling.ensures ∙ length-take-le x.1 (drop at text) (omega (arith, c.lexeme-kind.ensures.within, length-drop at text)) in
          let in_text = inside text whole before at cuts.rest c.loop-self-test.true in
          let is : x ≡ lexeme (drop here whole) = c.lexeme-kind.ensures.value ∙ ap lexeme there in
          let turn : IsKept c.add_kept.new.out.items → Turn whole goes.begun here x (map view c.loop-self.out.items) (map view c.add_kept.new.out.items) = λ few.
          let kept = c.in_ok-add_kept.ensures whole (c.span-spelling.ensures ∙ ap (take x.1) there ∙ ap (λ n. take n (drop here whole)) (sym long)) goes.line_is few in
          record { inside = in_text; some = c.lexeme-kind.ensures.within.0; is = is; put = kept.0 ∙ ap (λ n. map view c.loop-self.out.items ++ token_of x.0 whole here n) long; held = goes.held kept.1 } in
          let began = c.start-from.ensures.start whole goes.begun goes.begins goes.line_is in
          let given = c.ended-piece.ensures.piece whole here began.1 goes.line_is ∙ ap (λ f. ended_by (role x.0) whole f here (here + x.1)) began.0 in
          let none = not_ended c.ended-piece.result (ended_by (role x.0) whole (start goes.begun here) here (here + x.1)) (sym c.is_some.ensures ∙ c.if-is_some.false) given in
          let seen_feeds = fed ∙ ap (λ t. count_by (λ b. b == 10) (take x.1 t)) there in
          let on : Goes whole c.args.self.now (here + x.1) (c.loop-self.self.line + c.feeds_in.result) c.begun_after-begun.result (IsKept c.add_kept.new.out.items) (map view c.add_kept.new.out.items) = record {
            line_is = omega (arith, goes.line_is, seen_feeds, line_more whole here x.1);
            begun = begun_after (role x.0) goes.begun here;
            begins = c.begun_after-begun.ensures.begun whole goes.begun here goes.begins began.0 began.1;
            left_is = open_next whole goes.begun here x (left whole c.args.self.now) in_text c.lexeme-kind.ensures.within.0 is none goes.left_is;
            held = λ few. held_on whole goes.begun here x (map view c.loop-self.out.items) (map view c.add_kept.new.out.items) none (turn few);
          } in
          let further : here + x.1 ≡ before + (at + x.1) = omega arith in
          subst (λ n. Goes whole c.args.self.now n (c.loop-self.self.line + c.feeds_in.result) c.begun_after-begun.result (IsKept c.add_kept.new.out.items) (map view c.add_kept.new.out.items)) further on;
    }

pub loop-self-preserved-then-is_gap_at : goal.loop-self-preserved-then-is_gap_at
loop-self-preserved-then-is_gap_at c =
    let text = c.args.self.now.text.now in
    let before = c.args.self.now.before in
    let inv = c.loop-self.invariant in
    let at = c.loop-self.self.at in
    let here = before + at in
    let ts = map view c.loop-self.out.items in
    let fed = c.feeds.ensures ∙ ap (count_by (λ y. y == 10)) c.span.ensures in
    record {
      same = inv.same;
      there = inv.there;
      in_range = omega (arith, c.loop-self-test.true);
      sound = inv.sound;
      line_low = omega (arith, inv.line_low, fed, feeds_few text at 1);
      began = begun_later before here (before + (at + 1)) c.loop-self.begun (omega arith) inv.began;
      goes = λ whole cuts.
          let goes = inv.goes whole cuts in
          let there = seen text whole before at cuts.rest in
          let in_text = inside text whole before at cuts.rest c.loop-self-test.true in
          let is : (kind.Layout, 1) ≡ lexeme (drop here whole) = sym (c.is_gap_at.ensures c.if-is_gap_at.true) ∙ ap lexeme there in
          let turn : IsKept c.loop-self.out.items → Turn whole goes.begun here (kind.Layout, 1) ts ts = λ few.
          record { inside = in_text; some = omega arith; is = is; put = sym (append-nil ts); held = goes.held few } in
          let seen_feeds = fed ∙ ap (λ t. count_by (λ b. b == 10) (take 1 t)) there in
          let on : Goes whole c.args.self.now (here + 1) (c.loop-self.self.line + c.feeds.result) c.loop-self.begun (IsKept c.loop-self.out.items) ts = record {
            line_is = omega (arith, goes.line_is, seen_feeds, line_more whole here 1);
            begun = goes.begun;
            begins = goes.begins;
            left_is = open_next whole goes.begun here (kind.Layout, 1) (left whole c.args.self.now) in_text (omega arith) is refl goes.left_is;
            held = λ few. held_on whole goes.begun here (kind.Layout, 1) ts ts refl (turn few);
          } in
          let further : here + 1 ≡ before + (at + 1) = omega arith in
          subst (λ n. Goes whole c.args.self.now n (c.loop-self.self.line + c.feeds.result) c.loop-self.begun (IsKept c.loop-self.out.items) ts) further on;
    }

pub returns-clause-text : goal.returns-clause-text
returns-clause-text c = c.loop-self.invariant.same

pub returns-clause-stands : goal.returns-clause-stands
returns-clause-stands c =
    let inv = c.loop-self.invariant in
    stands c.loop-self.self c.args.self.now.text.now c.args.self.now.before inv.same inv.there inv.in_range inv.sound inv.line_low c.requires.fits

pub returns-clause-cuts : goal.returns-clause-cuts
returns-clause-cuts c = λ whole cuts.
    let inv = c.loop-self.invariant in
    record {
      rest = inv.same ∙ cuts.rest ∙ ap (λ n. drop n whole) (sym inv.there);
      line_is = (inv.goes whole cuts).line_is ∙ ap (λ n. line_at whole (n + c.loop-self.self.at)) (sym inv.there);
    }

pub returns-clause-next : goal.returns-clause-next
returns-clause-next c = λ whole cuts.
    let text = c.args.self.now.text.now in
    let before = c.args.self.now.before in
    let inv = c.loop-self.invariant in
    let goes = inv.goes whole cuts in
    let here = before + c.loop-self.self.at in
    last_next c.unended.result whole goes.begun here c.args.self.now c.loop-self.self (omega (arith, inv.there)) (outside text whole before c.loop-self.self.at cuts.rest c.loop-self-test.false) (c.unended.ensures.piece whole goes.begun goes.begins) goes.left_is

pub returns-clause-tokens : goal.returns-clause-tokens
returns-clause-tokens c = of_each (IsKept c.loop-self.out.items) c.args.self.now (map view c.loop-self.out.items) c.unended.result (λ whole cuts few.
    let goes = c.loop-self.invariant.goes whole cuts in
    last_tokens whole c.unended.result goes.begun (c.args.self.now.before + c.loop-self.self.at) (map view c.loop-self.out.items) (c.unended.ensures.piece whole goes.begun goes.begins) (goes.held few))

pub returns-then-is_some-clause-within : goal.returns-then-is_some-clause-within
returns-then-is_some-clause-within c =
    let text = c.args.self.now.text.now in
    let before = c.args.self.now.before in
    let inv = c.loop-self.invariant in
    let at = c.loop-self.self.at in
    let began = c.start-from.ensures.within before inv.began (omega arith) (omega (arith, inv.line_low)) in
    ended_within text before (c.start-from.result.0) c.start-from.result.1 (before + at + c.lexeme-kind.result.1) c.ended-piece.result began.0 (omega (arith, began.1)) (omega (arith, c.lexeme-kind.ensures.within.1)) began.2 c.ended-piece.ensures.lies

pub returns-clause-within : goal.returns-clause-within
returns-clause-within c =
    let inv = c.loop-self.invariant in
    let before = c.args.self.now.before in
    unended_within c.args.self.now.text.now before (before + c.loop-self.self.at) c.unended.result (omega (arith, inv.in_range)) (c.unended.ensures.lies before inv.began)

pub returns-then-is_some-clause-lines : goal.returns-then-is_some-clause-lines
returns-then-is_some-clause-lines c = lines_of c.args.self.now c.ended-piece.result (λ whole cuts.
    let here = c.args.self.now.before + c.loop-self.self.at in
    let x = c.lexeme-kind.result in
    let goes = c.loop-self.invariant.goes whole cuts in
    let began = c.start-from.ensures.start whole goes.begun goes.begins goes.line_is in
    line_closed c.ended-piece.result (role x.0) whole c.start-from.result.0 here (here + x.1) (c.ended-piece.ensures.piece whole here began.1 goes.line_is))

pub returns-clause-lines : goal.returns-clause-lines
returns-clause-lines c = lines_of c.args.self.now c.unended.result (λ whole cuts.
    let goes = c.loop-self.invariant.goes whole cuts in
    line_last c.unended.result whole goes.begun (c.args.self.now.before + c.loop-self.self.at) (c.unended.ensures.piece whole goes.begun goes.begins))
