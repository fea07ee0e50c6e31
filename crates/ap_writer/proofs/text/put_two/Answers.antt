use Rattle.std.proofs.Common.{[], ◌∷◌, ◌++◌, ap, ◌∙◌}
use Rattle.ap_writer.specs.Work.{left, vars_left, weight}
use Rattle.ap_writer.proofs.Left.{left-push_two, vars_left-push_two, weight-push_two}
use Rattle.ap_writer.proofs.text.put_two.Goals as goal

pub returns-clause-text : goal.returns-clause-text
returns-clause-text c = λ names found.
    ap (left names found) (c.in_ok-push-2.ensures.items ∙ ap (λ l. l ++ c.args.top ∷ []) c.in_ok-push.ensures.items) ∙ left-push_two names found c.args.stack.now.items c.args.below c.args.top

pub returns-clause-variables : goal.returns-clause-variables
returns-clause-variables c = λ found.
    ap (λ xs. vars_left xs found) (c.in_ok-push-2.ensures.items ∙ ap (λ l. l ++ c.args.top ∷ []) c.in_ok-push.ensures.items) ∙ vars_left-push_two c.args.stack.now.items c.args.below c.args.top found

pub returns-clause-larger : goal.returns-clause-larger
returns-clause-larger c =
    ap weight (c.in_ok-push-2.ensures.items ∙ ap (λ l. l ++ c.args.top ∷ []) c.in_ok-push.ensures.items) ∙ weight-push_two c.args.stack.now.items c.args.below c.args.top
