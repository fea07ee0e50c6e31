use Rattle.std.proofs.Common.{◌∙◌, ◌++◌, ◌∷◌, [], ap, sym, map}
use Rattle.ap_reader.specs.Written.{Node, leaf_of}
use Rattle.ap_clause.proofs.PlainNames.{ends_compound}
use Rattle.ap_clause.proofs.form.compound_name.Goals as goal

pub returns-in-Some-Compound-default : goal.returns-in-Some-Compound-default
returns-in-Some-Compound-default c = λ t e.
    let last = c.in-Some-Compound-default in
    let there = ends_compound (map leaf_of c.args.leaves.now) t last.field-0-1.now c.args.steps.now last.at (last.ensures.cases.0 ∙ ap (λ s. last.field-0-1.now ++ s ∷ []) last.field-0-0-is) e in
    (there.0, there.1 ∙ ap (λ f. Node f there.0) (sym c.name_at.ensures))
