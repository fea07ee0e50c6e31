use Rattle.std.proofs.Common.{◌≡◌, ap, sym, ◌∙◌, cond, true, Some, None, arith}
use Rattle.std.specs.List.{flat_map}
use Rattle.ap_sharing.specs.Sets.{join_sets, with_each, pairs, too_many}
use Rattle.ap_sharing.proofs.Lists.{too_many-join}
use Rattle.ap_sharing.proofs.Turns.{pairs-turn, few_at, many_at}
use Rattle.ap_sharing.proofs.sets.Sets.unions_with.Goals as goal

pub returns-then-len-gt-MAX_SETS : goal.returns-then-len-gt-MAX_SETS
returns-then-len-gt-MAX_SETS c =
    let other = c.args.other.now in
    let items = c.as_slice-s-items.result.now in
    let whole = pairs-turn other items c.loop-s.s-index c.s-item.result c.loop-s.unions c.add_unions.new.self (pairs c.args.self.now other) (omega arith) c.s-item.is
    (c.in_ok-add_unions.ensures ∙ ap (λ r. join_sets c.loop-s.unions (with_each c.s-item.result r)) c.as_slice.ensures) c.loop-s.invariant.rest in
    let e : too_many (pairs c.args.self.now other) ≡ true =
    ap too_many (sym whole) ∙ too_many-join c.add_unions.new.self (flat_map (λ s. with_each s other) _) (many_at c.add_unions.new.self c.len.result c.len.ensures.len c.if-len-gt-MAX_SETS.true) in
    sym (ap (λ b. cond b None (Some (pairs c.args.self.now other))) e)

pub loop-s-preserved : goal.loop-s-preserved
loop-s-preserved c = record {
  rest = pairs-turn c.args.other.now c.as_slice-s-items.result.now c.loop-s.s-index c.s-item.result c.loop-s.unions c.add_unions.new.self (pairs c.args.self.now c.args.other.now) (omega arith) c.s-item.is
      (c.in_ok-add_unions.ensures ∙ ap (λ r. join_sets c.loop-s.unions (with_each c.s-item.result r)) c.as_slice.ensures) c.loop-s.invariant.rest;
  few = few_at c.add_unions.new.self c.len.result c.len.ensures.len c.if-len-gt-MAX_SETS.false;
}
