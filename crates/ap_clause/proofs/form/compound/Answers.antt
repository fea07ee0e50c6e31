use Rattle.std.proofs.Common.{◌∙◌, sym}
use Rattle.ap_clause.proofs.Forms.{form-items}
use Rattle.ap_clause.proofs.form.compound.Goals as goal

pub returns-in-Items : goal.returns-in-Items
returns-in-Items c = λ ys x e h. c.plain.ensures ∙ sym (form-items c.args.name.now ys x (sym c.in-Items.is ∙ e))
