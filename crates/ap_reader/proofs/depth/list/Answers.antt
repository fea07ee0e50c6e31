use Rattle.std.proofs.Common.{◌∙◌}
use Rattle.ap_reader.proofs.Depths.{list-is}
use Rattle.ap_reader.proofs.depth.list.Goals as goal

pub returns : goal.returns
returns c = λ ys x u e h k. c.max.ensures ∙ list-is ys x u _ _ (c.greatest.ensures ys x e h) k
