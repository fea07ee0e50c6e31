use Rattle.std.proofs.Common.{sym, ◌∙◌, subst}
use Rattle.ap_cge.specs.Stripped.{stripped}
use Rattle.ap_patterns.specs.Given.{patterns}
use Rattle.ap_fixpoint.specs.Fix.{IsFix}
use Rattle.ap_fixpoint.proofs.Ungrouped.{fix-same}
use Rattle.ap_fixpoint.proofs.answered.is_table_with_groups.Goals as goal

pub returns-in-All : goal.returns-in-All
returns-in-All c h f =
    let A = c.args.clauses.now in
    let t = patterns c.args.table.now in
    subst (λ E. IsFix E A t) (sym c.in-All.is) (fix-same A t (sym c.all_answered.ensures ∙ h) (subst (λ E. IsFix E (stripped A) t) c.in-All.is f))
