use Rattle.std.proofs.Common.{◌≡◌, true, sym, ◌∙◌, subst}
use Rattle.ap_patterns.specs.Given.{patterns}
use Rattle.ap_fixpoint.specs.Fix.{IsFix}
use Rattle.ap_mel.specs.Lone.{is_plain}
use Rattle.ap_mel.proofs.Plain.{stripped-plain}
use Rattle.ap_mel.proofs.annotations.is_own_table.Goals as goal

pub returns-then-is_plain : goal.returns-then-is_plain
returns-then-is_plain c h f =
    let A = c.args.grouped.now in
    let p : is_plain A ≡ true = sym c.is_plain.ensures ∙ c.if-is_plain.true in
    subst (λ B. IsFix c.args.entries.now B (patterns c.args.table.now)) (stripped-plain A p) f
