use Rattle.std.proofs.Common.{◌≡◌, Some, ap, ◌∙◌, slice_get}
use Rattle.ap_reader.proofs.Tables.{placed, fixed-at, kept-at}
use Rattle.ap_reader.proofs.build.atom.Goals as goal

pub returns-in-Some-clause-place : goal.returns-in-Some-clause-place
returns-in-Some-clause-place c =
    let ns = c.args.atoms.now in
    let held : slice_get ns c.in-Some.number ≡ Some c.args.name.now =
    fixed-at ns c.in-Some.number c.args.name.now c.mark-held.ensures.kept c.in-Some.ensures.0 (c.in-Some.ensures.1 ∙ ap Some c.as_bytes.ensures.value) in
    λ more. c.at.ensures ∙ placed ns c.in-Some.number c.args.name.now c.mark-held.ensures.kept held more

pub returns-in-Some-clause-table : goal.returns-in-Some-clause-table
returns-in-Some-clause-table c =
    let ns = c.args.atoms.now in
    let held : slice_get ns c.in-Some.number ≡ Some c.args.name.now =
    fixed-at ns c.in-Some.number c.args.name.now c.mark-held.ensures.kept c.in-Some.ensures.0 (c.in-Some.ensures.1 ∙ ap Some c.as_bytes.ensures.value) in
    kept-at ns c.in-Some.number c.args.name.now held

pub returns-in-Ok-clause-place : goal.returns-in-Ok-clause-place
returns-in-Ok-clause-place c = placed c.intern.new.self c.in-Ok.atom c.args.name.now c.mark-kept.ensures.kept c.in-Ok.ensures.atom

pub returns-in-Some-known-clause-place : goal.returns-in-Some-known-clause-place
returns-in-Some-known-clause-place c = placed c.args.atoms.now c.in-Some-known.atom c.args.name.now c.mark-found.ensures.kept c.in-Some-known.ensures

pub returns-in-Some-known-clause-table : goal.returns-in-Some-known-clause-table
returns-in-Some-known-clause-table c = kept-at c.args.atoms.now c.in-Some-known.atom c.args.name.now c.in-Some-known.ensures
