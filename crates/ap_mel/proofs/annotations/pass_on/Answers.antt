use Rattle.std.proofs.Common.{◌≡◌, ◌∙◌, refl, sym, subst}
use Rattle.ap_patterns.specs.Given.{patterns}
use Rattle.ap_certify.specs.declared.certified.Scope.TheVariants.{Of}
use Rattle.ap_certify.specs.Certificate.{IsSoundAnnotation}
use Rattle.ap_mel.specs.Made.{IsMade, begun, passed}
use Rattle.ap_mel.proofs.Certifying.{passes-length, settled-given, made, sound}
use Rattle.ap_mel.proofs.Ending.{pass-lighter}
use Rattle.ap_mel.proofs.Mending.{program-stays}
use Rattle.ap_mel.proofs.annotations.pass_on.Goals as goal

pub loop-table-init : goal.loop-table-init
loop-table-init c = record { passes = begun c.args.grouped refl; table = c.requires.table }

pub pass_over-requires : goal.pass_over-requires
pass_over-requires c = passes-length c.args.kind c.args.entries.now c.args.program.now c.args.grouped c.loop-table.current c.requires.length c.loop-table.invariant.passes

pub returns-then-settled-clause-made : goal.returns-then-settled-clause-made
returns-then-settled-clause-made c =
    let k = c.args.kind in
    let E = c.args.entries.now in
    let P = c.args.program.now in
    let A = c.loop-table.current in
    let first = c.args.grouped in
    let u = patterns c.loop-table.table in
    let l = passes-length k E P first A c.requires.length c.loop-table.invariant.passes in
    let stays = sym c.in_ok-mended.ensures.settled ∙ c.if-settled.true in
    let same : c.in_ok-mended.field-0.mended.items ≡ A = c.in_ok-mended.ensures.mended ∙ program-stays k u P A l stays in
    λ t f one. subst (IsMade k E P) (sym same) (made k E P first A t u f one c.loop-table.invariant.passes c.loop-table.invariant.table l stays)

pub returns-then-settled-clause-sound : goal.returns-then-settled-clause-sound
returns-then-settled-clause-sound c =
    let k = c.args.kind in
    let E = c.args.entries.now in
    let P = c.args.program.now in
    let A = c.loop-table.current in
    let first = c.args.grouped in
    let u = patterns c.loop-table.table in
    let l = passes-length k E P first A c.requires.length c.loop-table.invariant.passes in
    let stays = sym c.in_ok-mended.ensures.settled ∙ c.if-settled.true in
    let same : c.in_ok-mended.field-0.mended.items ≡ A = c.in_ok-mended.ensures.mended ∙ program-stays k u P A l stays in
    let given = settled-given k E P A u l c.in_ok-mended.ensures.formed c.loop-table.invariant.table stays in
    λ t one. subst (λ p. IsSoundAnnotation P p (Of E)) (sym same) (sound k E P first A t one c.loop-table.invariant.passes given)

pub loop-table-preserved : goal.loop-table-preserved
loop-table-preserved c = record {
  passes = passed c.loop-table.current (patterns c.loop-table.table) _ c.loop-table.invariant.passes c.loop-table.invariant.table (c.in_ok-current.ensures ∙ c.in_ok-mended.ensures.mended);
  table = c.in_ok-table.ensures;
}

pub loop-table-smaller : goal.loop-table-smaller
loop-table-smaller c =
    let k = c.args.kind in
    let E = c.args.entries.now in
    let P = c.args.program.now in
    let A = c.loop-table.current in
    let l = passes-length k E P c.args.grouped A c.requires.length c.loop-table.invariant.passes in
    pass-lighter k (patterns c.loop-table.table) P A _ l (c.in_ok-current.ensures ∙ c.in_ok-mended.ensures.mended)
    (sym c.in_ok-mended.ensures.settled ∙ c.if-settled.false)
