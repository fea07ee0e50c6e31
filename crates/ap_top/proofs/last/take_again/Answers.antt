use Rattle.std.proofs.Common.{◌≡◌, IfSome, sym, subst}
use Rattle.ap_reach.specs.Reached.{Reaches}
use Rattle.ap_grouping.specs.Again.{GetsGroups}
use Rattle.ap_top.proofs.last.take_again.Goals as goal

pub returns : goal.returns
returns c = λ p kind last reaches.
    let before = last.1 in
    let asked = c.args.query.now in
    let same : c.args.last.calls ≡ c.args.calls.now = c.is_same.ensures c.if-not-is_same.false in
    let own : Reaches p asked c.args.last.calls = subst (Reaches p asked) (sym same) reaches in
    let gets : GetsGroups c.args.last.grouped.query asked c.in-Some.asked = subst (λ o. IfSome o (λ again. GetsGroups c.args.last.grouped.query asked again)) c.in-Some.is c.in_ok-asked.ensures in
    record {
      part = before.part;
      formed = before.formed;
      reached = before.reached;
      here = before.reached asked own;
      groups = gets kind before.part c.args.last.grouped.program last.0 (before.plain c.if-not-last.false) c.as_slice-good.ensures.kept before.groups;
      code = before.code;
      plain = λ e. c.has_no_groups-is_plain.ensures e;
    }
