use Rattle.std.proofs.Common.{sym, ◌∙◌}
use Rattle.ap_term.specs.TermView.{tree_of}
use Rattle.ap_patterns.specs.Given.{patterns}
use Rattle.ap_fixpoint.proofs.OpenGoals.{called-open}
use Rattle.ap_fixpoint.proofs.open.is_called_anyhow.Goals as goal

pub returns-in-Some : goal.returns-in-Some
returns-in-Some c h = called-open (patterns c.args.table.now) (tree_of c.args.goal.now) c.in-Some.called.now c.in-Some.ensures (sym c.covers_any.ensures ∙ h)
