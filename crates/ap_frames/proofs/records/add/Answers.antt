use Rattle.std.proofs.Common.{[], ◌∷◌, ◌++◌, refl, ap, ◌∙◌}
use Rattle.ap_frames.specs.Slots.{listed}
use Rattle.ap_frames.proofs.records.add.Goals as goal

pub returns-in-Ok-clause-stored : goal.returns-in-Ok-clause-stored
returns-in-Ok-clause-stored g c = (c.in-Ok.tuples, c.in-Ok.ensures ∙ ap (λ o. listed o ++ c.args.tuple ∷ []) c.take.ensures.value, refl)
