use Rattle.std.proofs.Common.{◌<◌, length, get_or, ap, sym, ◌∙◌, arith}
use Rattle.std.proofs.lemmas.List.{get_or_default}
use Rattle.ap_marks.proofs.Kept.{there_is, place_is, is_absent}
use Rattle.ap_marks.proofs.marks.Marks.number_of.Goals as goal

pub returns-then-index-x : goal.returns-then-index-x
returns-then-index-x c =
    let order = c.self.inside.order.items in
    let places = c.self.inside.places.items in
    let k = c.index.result.now in
    let x = c.args.x in
    let h : k < length order = omega arith in
    let p = get_or_default places x 0 k (omega arith) ∙ sym c.index.ensures in
    let e = get_or_default order k 0 c.index-then-number-len.result.now h ∙ sym c.index-then-number-len.ensures ∙ c.if-index-x.true in
    record {
      absent = tt;
      there = rw (← c.self.view_is) (there_is x order k h e);
      number = rw (← c.self.view_is) (place_is order places (c.self.invariant.kept (omega arith)) x k p h e);
      below = rw (← c.self.view_is) h;
      at = rw (← c.self.view_is) e;
    }

pub returns-else-index-x : goal.returns-else-index-x
returns-else-index-x c =
    let order = c.self.inside.order.items in
    let places = c.self.inside.places.items in
    let p = get_or_default places c.args.x 0 c.index.result.now (omega arith) ∙ sym c.index.ensures in
    record {
      absent = rw (← c.self.view_is) (is_absent order places (c.self.invariant.kept (omega arith)) c.args.x
          (λ l h e. c.if-index-x.false (c.index-then-number-len.ensures ∙ get_or_default order c.index.result.now c.index-then-number-len.result.now 0 (omega arith) ∙ ap (λ k. get_or order k 0) (sym p) ∙ e)));
      there = tt;
      number = tt;
      below = tt;
      at = tt;
    }

pub returns-else-number-len : goal.returns-else-number-len
returns-else-number-len c =
    let order = c.self.inside.order.items in
    let places = c.self.inside.places.items in
    let p = get_or_default places c.args.x 0 c.index.result.now (omega arith) ∙ sym c.index.ensures in
    record {
      absent = rw (← c.self.view_is) (is_absent order places (c.self.invariant.kept (omega arith)) c.args.x (λ l h e. omega arith));
      there = tt;
      number = tt;
      below = tt;
      at = tt;
    }

pub returns-else-x-len : goal.returns-else-x-len
returns-else-x-len c = record {
  absent = rw (← c.self.view_is) (is_absent c.self.inside.order.items c.self.inside.places.items (c.self.invariant.kept (omega arith)) c.args.x (λ l h e. omega arith));
  there = tt;
  number = tt;
  below = tt;
  at = tt;
}
