use Rattle.std.proofs.Common.{◌∙◌, ap, sym}
use Rattle.ap_reader.specs.Depth.{capped}
use Rattle.ap_reader.proofs.Depths.{cell-is, no_cell-is}
use Rattle.ap_reader.proofs.depth.cell_depth.Goals as goal

pub returns-in-OneItem : goal.returns-in-OneItem
returns-in-OneItem c = λ ys x e h. c.max.ensures ∙ cell-is ys x _ _ (sym c.in-OneItem.is ∙ e) h

pub returns-in_default : goal.returns-in_default
returns-in_default c = λ ys x e h. c.greatest.ensures ys x e h ∙ sym (ap capped (no_cell-is c.args.items ys x e c.in_default.not-OneItem))
