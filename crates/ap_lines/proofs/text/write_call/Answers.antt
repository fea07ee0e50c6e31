use Rattle.std.proofs.Common.{◌<◌, ◌+◌, ◌-◌, ◌++◌, [], ◌∷◌, codes, ap, ap₂, sym, ◌∙◌, arith}
use Rattle.ap_cells.specs.Trees.{tree_at, span}
use Rattle.ap_term.specs.Substitution.{instance_all}
use Rattle.ap_writer.specs.Quoted.{name_text}
use Rattle.ap_writer.specs.Text.{all_shown, behind_commas, numbered_by, name_at}
use Rattle.ap_writer.specs.Work.{shown_by}
use Rattle.ap_lines.specs.Work.{left}
use Rattle.ap_lines.proofs.Spans.{arguments-first, regroup-call}
use Rattle.ap_lines.proofs.text.write_call.Goals as goal

pub returns-in_ok-put_two-clause-text : goal.returns-in_ok-put_two-clause-text
returns-in_ok-put_two-clause-text c = λ found ts.
    let names = c.args.atoms.now in
    let p = c.args.first in
    let n = c.args.count in
    let some : 0 < n = omega arith in
    let out = c.args.out.now.items in
    let name = name_text (name_at names c.args.name) in
    let first = (shown_by names found (tree_at ts p)).own in
    let others = behind_commas (all_shown names (instance_all (numbered_by found) (span ts (p + 1) (n - 1)))) in
    let rest = left names found ts c.args.stack.now.items in
    ap₂ (λ o l. o ++ l)
    (c.in_ok-push.ensures.items ∙ ap (λ l. l ++ 40 ∷ []) c.in_ok-write_name.ensures.text)
    (c.in_ok-put_two.ensures.text names found ts)
    ∙ regroup-call out name first others rest
    ∙ ap (λ l. out ++ ((name ++ (codes "(" ++ l)) ++ rest)) (sym (arguments-first names found ts p n some))

pub returns-in_ok-put_two-clause-inside : goal.returns-in_ok-put_two-clause-inside
returns-in_ok-put_two-clause-inside c = λ n h k. c.in_ok-put_two.ensures.inside n (omega arith) (omega arith) k
