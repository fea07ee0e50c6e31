use Rattle.std.proofs.Common.{◌+◌, ◌-◌, arith, subst, sym, inl, inr}
use Rattle.ap_cells.specs.Walks.{InRanges}
use Rattle.ap_cells.proofs.Searches.{InRanges-push, InRanges-last, InRanges-pop}
use Rattle.ap_cells.specs.declared.walk.Range.{Range}
use Rattle.ap_cells.proofs.Walks.{weight_in-push}
use Rattle.ap_cells.proofs.walk.leave.Goals as goal

pub returns-in_ok-push-clause-less : goal.returns-in_ok-push-clause-less
returns-in_ok-push-clause-less c ts =
    let r : Range = record { first = c.args.range.first + 1; count = c.args.range.count - 1 } in
    rw c.in_ok-push.ensures.items (omega (arith, weight_in-push ts c.args.ranges.now.items r))

pub returns-in_ok-push-clause-places : goal.returns-in_ok-push-clause-places
returns-in_ok-push-clause-places c p =
    let r : Range = record { first = c.args.range.first + 1; count = c.args.range.count - 1 } in
    let rs = c.args.ranges.now.items in (
      λ h. subst (InRanges p) (sym c.in_ok-push.ensures.items) (InRanges-push p rs r h),
      (
        λ a b. subst (InRanges p) (sym c.in_ok-push.ensures.items) (InRanges-last p rs r (omega arith, omega arith)),
        λ h. elim (InRanges-pop p rs r (subst (InRanges p) c.in_ok-push.ensures.items h)) [ inl a ↦ inl a | inr b ↦ let d = b.0 in let e = b.1 in inr (omega arith, omega arith) ],
      ),
    )
