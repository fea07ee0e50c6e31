use Rattle.std.proofs.Common.{[], ◌∷◌, ◌++◌, ap, ◌∙◌}
use Rattle.ap_lines.specs.Work.{left, vars_left, weight}
use Rattle.ap_lines.proofs.Left.{left-push_two, vars_left-push_two, weight-push_two}
use Rattle.ap_lines.proofs.text.put_two.Goals as goal

pub returns-clause-text : goal.returns-clause-text
returns-clause-text c = λ names found ts.
    ap (left names found ts) (c.in_ok-push-2.ensures.items ∙ ap (λ l. l ++ c.args.top ∷ []) c.in_ok-push.ensures.items)
    ∙ left-push_two names found ts c.args.stack.now.items c.args.below c.args.top

pub returns-clause-variables : goal.returns-clause-variables
returns-clause-variables c = λ ts found.
    ap (λ xs. vars_left ts xs found) (c.in_ok-push-2.ensures.items ∙ ap (λ l. l ++ c.args.top ∷ []) c.in_ok-push.ensures.items)
    ∙ vars_left-push_two ts c.args.stack.now.items c.args.below c.args.top found

pub returns-clause-larger : goal.returns-clause-larger
returns-clause-larger c = λ ts.
    ap (weight ts) (c.in_ok-push-2.ensures.items ∙ ap (λ l. l ++ c.args.top ∷ []) c.in_ok-push.ensures.items) ∙ weight-push_two ts c.args.stack.now.items c.args.below c.args.top
