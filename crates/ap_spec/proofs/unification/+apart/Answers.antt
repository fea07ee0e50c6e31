use Rattle.std.proofs.Common.{sym}
use Rattle.ap_spec.proofs.Apart.{apart-last}
use Rattle.ap_spec.proofs.unification.+apart.Goals as goal
use Rattle.ap_term.proofs.TermLists.{last_smaller}

pub apart-loop-left-preserved : goal.apart-loop-left-preserved
apart-loop-left-preserved t c =
    let whole = rw (c.in-Node-Node.is-0, c.in-Node-Node.is-1) at c.loop-left.invariant.whole in
    let smaller = rw c.in-Node-Node.is-0 at c.loop-left.invariant.smaller in
    record {
      whole =
          apart-last _ _ _ c.in-Node-Node.a c.in-Node-Node.b _ _ _ _ _ _ (sym c.if-eq.ensures) c.in-Some-Some.ensures c.in-Some-Some.ensures'
          (rw c.if-not-branch.false at c.in_ok-apart_all-in-Some-Some.ensures) whole;
      smaller = last_smaller c.in-Node-Node.a _ _ _ _ c.in-Some-Some.ensures smaller;
    }
