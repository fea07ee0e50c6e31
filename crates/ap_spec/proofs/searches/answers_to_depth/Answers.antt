use Rattle.std.proofs.Common.{◌++◌, ◌∷◌, [], append-nil, ap, ap₂, ◌∙◌}
use Rattle.ap_term.specs.Goals.{joined}
use Rattle.ap_term.specs.Search.{start, cut, outcomes_to_depth}
use Rattle.ap_spec.specs.Searches.{answers_of_all}
use Rattle.ap_spec.proofs.searches.answers_to_depth.Goals as goal

pub returns : goal.returns
returns c =
    let query = c.args.query.now in
    let p = joined c.args.p.now query in
    c.in_ok-answers.ensures
    ∙ ap₂ (λ r ss. answers_of_all r ss c.args.d) (ap (λ cs. joined cs query) c.as_slice.ensures.clauses)
    (c.in_ok-push_back.ensures ∙ ap₂ (λ ss s. ss ++ s ∷ []) c.new-stack.ensures c.in_ok-first.ensures.state)
    ∙ ap cut (append-nil (outcomes_to_depth p (start query) c.args.d))
