use Rattle.std.proofs.Common.{◌∙◌, ap, rules}
use Rattle.std.specs.List.{filter}
use Rattle.std.proofs.lemmas.Fn.{filter_same}
use Rattle.ap_top.proofs.Layers.{judged_ended}
use Rattle.ap_top.proofs.texts.judged.Goals as goal

pub returns : goal.returns
returns c =
    judged_ended c.args.whole c.args.text.now _ (search rules)
    (filter_same _ (λ p. p.ended) _ (λ x b f' h. search rules) c.in_ok-pieces.pieces.items _ c.retain.ensures.filtered ∙ ap (filter (λ p. p.ended)) (c.in_ok-pieces.ensures.pieces))
