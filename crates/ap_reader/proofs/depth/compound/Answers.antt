use Rattle.std.proofs.Common.{◌∙◌, ap, sym, rules}
use Rattle.ap_reader.specs.Depth.{capped}
use Rattle.ap_reader.proofs.Depths.{depth-compound}
use Rattle.ap_reader.proofs.depth.compound.Goals as goal

pub returns-else-eq : goal.returns-else-eq
returns-else-eq c = λ ys x e h. c.greatest.ensures ys x e h ∙ sym (ap capped (depth-compound c.args.name.now ys x (search rules)))
