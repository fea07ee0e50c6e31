use Rattle.std.proofs.Common.{◌≡◌, true, length, ◌∙◌, ap, sym, subst}
use Rattle.ap_term.specs.WellFormed.{IsProgram}
use Rattle.ap_cge.specs.Stripped.{stripped}
use Rattle.ap_fixpoint.specs.Fix.{IsFix}
use Rattle.ap_patterns.specs.Given.{patterns}
use Rattle.ap_mel.specs.Lone.{is_plain}
use Rattle.ap_mel.specs.Made.{IsFirst}
use Rattle.ap_mel.proofs.Certifying.{first-kept}
use Rattle.ap_mel.proofs.Settled.{first-made, first-sound, first-own}
use Rattle.ap_mel.proofs.annotations.clauses_by.Goals as goal

pub pass_on-requires-clause-length : goal.pass_on-requires-clause-length
pass_on-requires-clause-length c =
    (first-kept c.args.kind (patterns c.args.table) c.args.program.now c.in_ok-grouped.grouped.items c.in_ok-grouped.ensures).0 ∙ sym (ap length c.in_ok-current.ensures)

pub returns-then-is_own_table-clause-made : goal.returns-then-is_own_table-clause-made
returns-then-is_own_table-clause-made c =
    let k = c.args.kind in
    let E = c.args.entries.now in
    let P = c.args.program.now in
    let A = c.in_ok-grouped.grouped.items in
    let t = patterns c.args.table in
    let one : IsFirst k t P A = c.in_ok-grouped.ensures in
    let p : is_plain P ≡ true = ap is_plain (sym c.as_slice-clauses.ensures.clauses) ∙ sym c.is_plain-plain.ensures ∙ c.if-plain.true in
    let own : IsFix E (stripped A) t → IsFix E A t = subst (λ B. IsFix E (stripped B) t → IsFix E B t) c.deref.ensures.value (c.is_own_table.ensures c.if-is_own_table.true) in
    first-made k E P A t c.requires.table one p (first-own k E P A t c.requires.table one p own)

pub returns-then-is_own_table-clause-sound : goal.returns-then-is_own_table-clause-sound
returns-then-is_own_table-clause-sound c =
    let k = c.args.kind in
    let E = c.args.entries.now in
    let P = c.args.program.now in
    let A = c.in_ok-grouped.grouped.items in
    let t = patterns c.args.table in
    let one : IsFirst k t P A = c.in_ok-grouped.ensures in
    let p : is_plain P ≡ true = ap is_plain (sym c.as_slice-clauses.ensures.clauses) ∙ sym c.is_plain-plain.ensures ∙ c.if-plain.true in
    let own : IsFix E (stripped A) t → IsFix E A t = subst (λ B. IsFix E (stripped B) t → IsFix E B t) c.deref.ensures.value (c.is_own_table.ensures c.if-is_own_table.true) in
    first-sound k E P A t one c.as_slice-clauses.ensures.kept p (first-own k E P A t c.requires.table one p own)
