use Rattle.std.proofs.Common.{sym, subst}
use Rattle.ap_term.specs.Goals.{Program}
use Rattle.ap_certify.specs.declared.certified.Scope.TheVariants.{Of}
use Rattle.ap_certify.specs.Certificate.{AreMissingGiven, IsSoundAnnotation}
use Rattle.ap_mel.specs.declared.annotations.Kind.{Kind}
use Rattle.ap_mel.specs.Made.{IsMade}
use Rattle.ap_mel.proofs.Certifying.{for_ok}
use Rattle.ap_mel.proofs.Untouched.{lone-made, lone-given, lone-sound}
use Rattle.ap_mel.proofs.lone.as_written.Goals as goal

pub certified-requires : goal.certified-requires
certified-requires c =
    let E = c.args.entries.now in
    let P = c.args.program.now in
    subst (λ A. AreMissingGiven A (Of E)) (sym c.in_ok-written.ensures) (lone-given E P c.requires c.as_slice-good.ensures.kept)

pub returns-clause-made : goal.returns-clause-made
returns-clause-made c =
    let E = c.args.entries.now in
    let P = c.args.program.now in
    let A = c.in_ok-written.written in
    let Q : Program → Type 0 = λ p. (k : Kind) → IsMade k E P p in
    for_ok (λ x. x.program) A Q (subst Q (sym c.in_ok-written.ensures) (λ k. lone-made k E P c.requires)) c.certified.result c.certified.ensures.program

pub returns-clause-sound : goal.returns-clause-sound
returns-clause-sound c =
    let E = c.args.entries.now in
    let P = c.args.program.now in
    let A = c.in_ok-written.written in
    let Q : Program → Type 0 = λ p. IsSoundAnnotation P p (Of E) in
    for_ok (λ x. x.program) A Q (subst Q (sym c.in_ok-written.ensures) (lone-sound E P c.requires c.as_slice-good.ensures.kept)) c.certified.result c.certified.ensures.program
