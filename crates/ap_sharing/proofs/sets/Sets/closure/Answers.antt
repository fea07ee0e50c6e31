use Rattle.std.proofs.Common.{◌≡◌, ◌+◌, drop, ap, ap₂, sym, ◌∙◌, subst, cond, true, Some, None, arith}
use Rattle.ap_sharing.specs.Sets.{IsAscending, grown_all, closure, too_many}
use Rattle.ap_sharing.proofs.Lists.{too_many-grown_all, ascending-none}
use Rattle.ap_sharing.proofs.Closures.{IsClosed, closed_none, closed_grown, grown_same}
use Rattle.ap_sharing.proofs.Turns.{grown_all-turn, few_at, many_at}
use Rattle.ap_sharing.proofs.sets.Sets.closure.Goals as goal

pub loop-s-init : goal.loop-s-init
loop-s-init c = record {
  rest = ap₂ grown_all c.new-closed.ensures c.as_slice-s-items.ensures;
  few = ap too_many c.new-closed.ensures;
  ascending = subst IsAscending (sym c.new-closed.ensures) ascending-none;
  closed = subst IsClosed (sym c.new-closed.ensures) closed_none;
}

pub loop-s-preserved-then-contains : goal.loop-s-preserved-then-contains
loop-s-preserved-then-contains c =
    let same = grown_same c.s-item.result c.loop-s.closed c.loop-s.invariant.ascending c.loop-s.invariant.closed (sym c.contains.ensures ∙ c.if-contains.true) in
    record {
      rest = grown_all-turn c.as_slice-s-items.result.now c.loop-s.s-index c.s-item.result c.loop-s.closed c.loop-s.closed (closure c.args.self.now) (omega arith) c.s-item.is (sym same) c.loop-s.invariant.rest;
      few = c.loop-s.invariant.few;
      ascending = c.loop-s.invariant.ascending;
      closed = c.loop-s.invariant.closed;
    }

pub returns-then-len-gt-MAX_SETS : goal.returns-then-len-gt-MAX_SETS
returns-then-len-gt-MAX_SETS c =
    let s = c.s-item.result in
    let whole = grown_all-turn c.as_slice-s-items.result.now c.loop-s.s-index s c.loop-s.closed c.in_ok-closed.closed (closure c.args.self.now) (omega arith) c.s-item.is c.in_ok-closed.ensures c.loop-s.invariant.rest in
    let e : too_many (closure c.args.self.now) ≡ true =
    ap too_many (sym whole) ∙ too_many-grown_all c.in_ok-closed.closed (drop (c.loop-s.s-index + 1) c.as_slice-s-items.result.now) (many_at c.in_ok-closed.closed c.len.result c.len.ensures.len c.if-len-gt-MAX_SETS.true) in
    sym (ap (λ b. cond b None (Some (closure c.args.self.now))) e)

pub loop-s-preserved : goal.loop-s-preserved
loop-s-preserved c =
    let s = c.s-item.result in
    record {
      rest = grown_all-turn c.as_slice-s-items.result.now c.loop-s.s-index s c.loop-s.closed c.in_ok-closed.closed (closure c.args.self.now) (omega arith) c.s-item.is c.in_ok-closed.ensures c.loop-s.invariant.rest;
      few = few_at c.in_ok-closed.closed c.len.result c.len.ensures.len c.if-len-gt-MAX_SETS.false;
      ascending = c.len.ensures.ascending;
      closed = subst IsClosed (sym c.in_ok-closed.ensures) (closed_grown s c.loop-s.closed c.loop-s.invariant.closed);
    }
