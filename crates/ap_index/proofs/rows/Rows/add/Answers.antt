use Rattle.std.proofs.Common.{◌≡◌, ◌+◌, ◌-◌, subst, arith}
use Rattle.ap_index.specs.Index.{IsFilled}
use Rattle.ap_index.proofs.Left.{filled-more, row-link}
use Rattle.ap_index.proofs.rows.Rows.add.Goals as goal

pub loop-at-preserved : goal.loop-at-preserved
loop-at-preserved c =
    let code = c.args.code.now in
    let at = c.loop-at.at - 1 in
    let row = c.loop-at.row in
    let e : c.loop-at.at ≡ at + 1 = omega arith in
    let filled : IsFilled code (at + 1) row = subst (λ n. IsFilled code n row) e c.loop-at.invariant.filled in
    record {
      order = omega arith;
      rows = c.in_ok-put_link.ensures code c.loop-at.invariant.rows (row-link code (at + 1) row c.in-Some-keyed_by_retry.keyed.key c.link.result c.link.ensures.count c.link.ensures.slot c.link.ensures.next filled);
      filled = filled-more code at c.in-Some-keyed_by_retry.keyed c.in-Some-keyed_by_retry.ensures row c.put.new.self filled c.put.ensures.first c.put.ensures.only;
    }
