use Rattle.std.proofs.Common.{sym, subst}
use Rattle.ap_term.specs.Goals.{Program}
use Rattle.ap_certify.specs.declared.certified.Scope.TheVariants.{Of}
use Rattle.ap_certify.specs.Certificate.{AreMissingGiven, IsSoundAnnotation}
use Rattle.ap_mel.specs.Made.{IsMade}
use Rattle.ap_mel.proofs.Certifying.{for_ok}
use Rattle.ap_mel.proofs.annotations.annotate_sound.Goals as goal

pub certified-requires : goal.certified-requires
certified-requires c = subst (λ A. AreMissingGiven A (Of c.args.entries.now)) (sym c.in_ok-annotated_of.ensures) c.in_ok-clauses.ensures.sound.given

pub returns-clause-made : goal.returns-clause-made
returns-clause-made c =
    let k = c.args.kind in
    let E = c.args.entries.now in
    let P = c.args.program.now in
    let A = c.in_ok-annotated_of.field-0 in
    let is : IsMade k E P A = subst (IsMade k E P) (sym c.in_ok-annotated_of.ensures) c.in_ok-clauses.ensures.made in
    for_ok (λ x. x.program) A (IsMade k E P) is c.certified.result c.certified.ensures.program

pub returns-clause-sound : goal.returns-clause-sound
returns-clause-sound c =
    let P = c.args.program.now in
    let A = c.in_ok-annotated_of.field-0 in
    let Q : Program → Type 0 = λ a. IsSoundAnnotation P a (Of c.args.entries.now) in
    let is : Q A = subst Q (sym c.in_ok-annotated_of.ensures) c.in_ok-clauses.ensures.sound in
    for_ok (λ x. x.program) A Q is c.certified.result c.certified.ensures.program
