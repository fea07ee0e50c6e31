use Rattle.std.proofs.Common.{◌<◌, ◌+◌, ◌-◌, ◌++◌, ap, ap₂, sym, ◌∙◌, arith}
use Rattle.ap_cells.specs.Trees.{tree_at, span}
use Rattle.ap_term.specs.Substitution.{instance_all}
use Rattle.ap_writer.specs.Text.{all_shown, behind_commas, numbered_by}
use Rattle.ap_writer.specs.Work.{shown_by}
use Rattle.ap_lines.specs.Work.{left}
use Rattle.ap_lines.proofs.Spans.{rest-first, regroup-rest}
use Rattle.ap_lines.proofs.text.write_rest.Goals as goal

pub returns-in_ok-put_two-clause-text : goal.returns-in_ok-put_two-clause-text
returns-in_ok-put_two-clause-text c = λ names found ts.
    let p = c.args.first in
    let n = c.args.count in
    let some : 0 < n = omega arith in
    let out = c.args.out.now.items in
    let first = (shown_by names found (tree_at ts p)).own in
    let others = behind_commas (all_shown names (instance_all (numbered_by found) (span ts (p + 1) (n - 1)))) in
    let rest = left names found ts c.args.stack.now.items in
    ap₂ (λ o l. o ++ l) c.in_ok-push-2.ensures.items (c.in_ok-put_two.ensures.text names found ts)
    ∙ regroup-rest out first others rest
    ∙ ap (λ l. out ++ (l ++ rest)) (sym (rest-first names found ts p n some))

pub returns-in_ok-put_two-clause-inside : goal.returns-in_ok-put_two-clause-inside
returns-in_ok-put_two-clause-inside c = λ n h k. c.in_ok-put_two.ensures.inside n (omega arith) (omega arith) k
