use Rattle.std.proofs.Common.{ap, ◌∙◌}
use Rattle.ap_lifting.specs.Lifted.{lifted_rule}
use Rattle.ap_lifting.specs.Sizes.{measured_if, held_measure}
use Rattle.ap_lifting.proofs.Measured.{measures_if, sizes_measured}
use Rattle.ap_lifting.proofs.sizes.sizes_of.Goals as goal

pub returns : goal.returns
returns c = λ names n.
    let r = c.args.rule.now in
    sizes_measured n (lifted_rule names r n) (measured_if r.body) c.measure_if-measure.result c.max.result c.max-2.result
    (measures_if names r.vars r.line r.body n) (c.measure_if-measure.ensures ∙ ap (λ b. held_measure (measured_if b)) c.body.ensures.body) c.max.ensures c.max-2.ensures
