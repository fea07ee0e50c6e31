use Rattle.std.proofs.Common.{◌+◌, Some, sym, subst}
use Rattle.std.proofs.lemmas.Result.{on_ok_weaker}
use Rattle.ap_index.specs.Index.{named_from, IsFilled}
use Rattle.ap_index.specs.Pairs.{ArePairsOf}
use Rattle.ap_index.proofs.Left.{filled-first, filled-more, row-link}
use Rattle.ap_index.proofs.rows.Rows.add_first.Goals as goal

pub returns-in-Some : goal.returns-in-Some
returns-in-Some c =
    let code = c.args.code.now in
    let filled = c.requires.filled in
    on_ok_weaker c.put_first.result
    (λ put. put code
    (c.in_ok-put_link.ensures code c.requires.are_rows (row-link code (c.args.start + 1) c.args.row c.in-Some.first.key c.link.result c.link.ensures.count c.link.ensures.slot c.link.ensures.next filled))
    (filled-first code c.args.start c.in-Some.first c.in-Some.ensures c.args.row c.put.new.self filled c.put.ensures.first c.put.ensures.only
    (subst (ArePairsOf code (named_from code (Some c.args.start))) (sym c.put.ensures.pairs) c.requires.pairs)))
    c.put_first.ensures

pub returns-in-Some-keyed_by_retry : goal.returns-in-Some-keyed_by_retry
returns-in-Some-keyed_by_retry c =
    let code = c.args.code.now in
    let filled = c.requires.filled in
    let put = c.put-in-Some-keyed_by_retry in
    let link = c.link-in-Some-keyed_by_retry in
    let rest : IsFilled code c.args.start put.new.self =
    filled-more code c.args.start c.in-Some-keyed_by_retry.keyed c.in-Some-keyed_by_retry.ensures c.args.row put.new.self filled put.ensures.first put.ensures.only in
    on_ok_weaker c.put_rest.result
    (λ put. put code
    (c.in_ok-put_link-2.ensures code c.requires.are_rows
    (row-link code (c.args.start + 1) c.args.row c.in-Some-keyed_by_retry.keyed.key link.result link.ensures.count link.ensures.slot link.ensures.next filled))
    rest.leads)
    c.put_rest.ensures
