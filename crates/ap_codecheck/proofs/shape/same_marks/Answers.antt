use Rattle.std.proofs.Common.{sym, ◌∙◌}
use Rattle.ap_codecheck.proofs.Marks.{marks_same, marks_other}
use Rattle.ap_codecheck.proofs.shape.same_marks.Goals as goal

pub returns : goal.returns
returns c = record {
  same = λ h. marks_same c.args.some.now c.args.others.now (sym c.eq.ensures ∙ h);
  other = λ h e. marks_other c.args.some.now c.args.others.now (sym c.eq.ensures ∙ h) e;
}
