use Rattle.std.proofs.Common.{sym, ◌∙◌}
use Rattle.ap_marks.proofs.classes.Classes.join.Goals as goal

pub returns-in_ok-link-clause-no_more : goal.returns-in_ok-link-clause-no_more
returns-in_ok-link-clause-no_more c f g e = c.in_ok-link.ensures.no_more f g (sym (c.find-left.ensures f g) ∙ e ∙ c.find-right.ensures f g)

pub returns-in_ok-link-2-clause-no_more : goal.returns-in_ok-link-2-clause-no_more
returns-in_ok-link-2-clause-no_more c f g e = c.in_ok-link-2.ensures.no_more f g (sym (c.find-right.ensures f g) ∙ sym e ∙ c.find-left.ensures f g)
