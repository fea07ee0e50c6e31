use Rattle.std.proofs.Common.{Some, refl, ap, sym, ◌∙◌}
use Rattle.ap_post.specs.Arities.{arity_of}
use Rattle.ap_section.specs.Views.{view_of}
use Rattle.ap_stack.proofs.Offers.{is-key}
use Rattle.ap_stack.proofs.offering.job_of.Goals as goal

pub invariant_of-result-clause-known : goal.invariant_of-result-clause-known
invariant_of-result-clause-known c =
    let k = c.goal-predicate.ensures.known c.args.sound.now c.requires.ready in
    let p = c.in_ok-tuple.ensures in
    ap arity_of k.1 ∙ ap (λ n. Some n) (sym (k.2 p.0 p.1) ∙ sym p.3)

pub returns : goal.returns
returns c = (
  is-key c.args.sound.now c.args.i c.goal-predicate.result c.rest.result c.in_ok-tuple.tuple (view_of c.args.section.now) c.goal-predicate.ensures.goal c.in_ok-tuple.ensures c.rest.ensures,
  refl,
  refl,
)
