use Rattle.std.proofs.Common.{length, subst}
use Rattle.ap_lines.specs.Work.{IsInside}
use Rattle.ap_lines.proofs.text.write_one.Goals as goal

pub returns-in_ok-write_rest-in-Rest-clause-inside : goal.returns-in_ok-write_rest-in-Rest-clause-inside
returns-in_ok-write_rest-in-Rest-clause-inside c = λ k.
    let n = length c.args.cells.now.cells in
    c.in_ok-write_rest-in-Rest.ensures.inside n (subst (IsInside n) c.in-Rest.is c.requires) k

pub returns-in_ok-put_two-in-Some-clause-inside : goal.returns-in_ok-put_two-in-Some-clause-inside
returns-in_ok-put_two-in-Some-clause-inside c = λ k.
    let h = c.in-Some.ensures.inside in
    c.in_ok-put_two-in-Some.ensures.inside (length c.args.cells.now.cells) h.0 h.1 k

pub returns-in_ok-put_two-in-Some-element-clause-inside : goal.returns-in_ok-put_two-in-Some-element-clause-inside
returns-in_ok-put_two-in-Some-element-clause-inside c = λ k.
    let h = c.in-Some-element.ensures.inside in
    c.in_ok-put_two-in-Some-element.ensures.inside (length c.args.cells.now.cells) h.0 h.1 k
