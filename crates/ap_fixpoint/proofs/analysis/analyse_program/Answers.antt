use Rattle.std.proofs.Common.{refl, length, ap, sym, ◌∙◌}
use Rattle.std.proofs.lemmas.Bool.{eqb-true, eqb-false}
use Rattle.ap_patterns.specs.Given.{patterns}
use Rattle.ap_fixpoint.specs.Rounds.{steps, changed}
use Rattle.ap_fixpoint.proofs.Fixing.{going-init, going-turn, going-done}
use Rattle.ap_fixpoint.proofs.Ending.{going-smaller}
use Rattle.ap_fixpoint.proofs.analysis.analyse_program.Goals as goal

pub returns-then-is_empty : goal.returns-then-is_empty
returns-then-is_empty c =
    let t = patterns c.loop-given.table in
    going-done c.args.entries.now c.args.program.now t (patterns c.unite_all.new.table) c.loop-given.given.items c.as_slice-slots.result.now c.loop-given.invariant
    (c.as_slice-slots.ensures.value ∙ c.in_ok-changed.ensures.changed ∙ ap (λ z. changed z z t) c.as_slice.ensures.value)
    (eqb-true (length c.as_slice-slots.result.now) 0 (sym c.is_empty.ensures ∙ c.if-is_empty.true)) (c.in_ok-changed.ensures.table ∙ ap (λ z. steps z z t) c.as_slice.ensures.value)

pub loop-given-preserved : goal.loop-given-preserved
loop-given-preserved c =
    let t = patterns c.loop-given.table in
    going-turn c.args.entries.now c.args.program.now c.args.program.now t (patterns c.unite_all.new.table) c.loop-given.given.items c.in_ok-given-2.given.items c.as_slice-slots.result.now
    refl c.loop-given.invariant (c.as_slice-slots.ensures.value ∙ c.in_ok-changed.ensures.changed ∙ ap (λ z. changed z z t) c.as_slice.ensures.value)
    (c.in_ok-changed.ensures.table ∙ ap (λ z. steps z z t) c.as_slice.ensures.value) c.in_ok-given-2.ensures

pub loop-given-init : goal.loop-given-init
loop-given-init c =
    going-init c.args.entries.now c.args.program.now c.args.program.now c.new-table.result c.in_ok-given.given.items refl c.new-table.ensures c.in_ok-given.ensures

pub loop-given-smaller : goal.loop-given-smaller
loop-given-smaller c =
    let t = patterns c.loop-given.table in
    going-smaller c.args.entries.now c.args.program.now t (patterns c.unite_all.new.table) c.loop-given.given.items c.as_slice-slots.result.now c.loop-given.invariant
    (c.as_slice-slots.ensures.value ∙ c.in_ok-changed.ensures.changed ∙ ap (λ z. changed z z t) c.as_slice.ensures.value)
    (eqb-false (length c.as_slice-slots.result.now) 0 (sym c.is_empty.ensures ∙ c.if-is_empty.false)) (c.in_ok-changed.ensures.table ∙ ap (λ z. steps z z t) c.as_slice.ensures.value)
