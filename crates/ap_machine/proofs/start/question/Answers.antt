use Rattle.std.proofs.Common.{ap, ◌∷◌, refl, sym, ◌∙◌}
use Rattle.ap_machine.proofs.Questions.{query-is}
use Rattle.ap_machine.proofs.start.question.Goals as goal

pub returns-in-None-clause-some : goal.returns-in-None-clause-some
returns-in-None-clause-some c = (
  (
    sym c.query.ensures ∙ query-is c.query.result c.args.number c.if-ne.ensures,
    c.in_ok-predicate.predicate,
    sym c.in_ok-predicate.ensures,
    c.in_ok-alternative.alternative.place,
    c.in_ok-alternative.ensures.some ∙ ap (λ ls. c.in_ok-alternative.alternative.place ∷ ls) (c.in-None.ensures.none refl),
  ),
  refl,
)
