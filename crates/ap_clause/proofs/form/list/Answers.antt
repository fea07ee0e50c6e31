use Rattle.std.proofs.Common.{◌∙◌, sym}
use Rattle.ap_clause.proofs.Forms.{form-cells}
use Rattle.ap_clause.proofs.form.list.Goals as goal

pub returns : goal.returns
returns c = λ ys x u. c.plain.ensures ∙ sym (form-cells ys x u)
