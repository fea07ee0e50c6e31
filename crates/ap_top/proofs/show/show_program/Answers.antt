use Rattle.std.proofs.Common.{◌≡◌, Err, subst, rules}
use Rattle.ap_outside.proofs.Puts.{puts_map}
use Rattle.ap_outside.proofs.Halts.{finishes_map, passes_halt}
use Rattle.ap_patterns.specs.declared.entries.Entries.{Entries}
use Rattle.ap_words.specs.Asked.{show_of}
use Rattle.ap_top.specs.Patterns.{AreEntries}
use Rattle.ap_top.specs.Shows.{IsPrinted, ProgramShows}
use Rattle.ap_top.specs.declared.status.Status.TheVariants as status
use Rattle.ap_top.proofs.PatternWords.{at-none, at-some}
use Rattle.ap_top.proofs.ShowLayers.{entry_refused, shown_lines}
use Rattle.ap_top.proofs.show.show_program.Goals as goal

pub returns-in-None-clause-lines : goal.returns-in-None-clause-lines
returns-in-None-clause-lines g c =
    let what = show_of c.args.command.now in
    let P = c.args.program.now in
    let table = c.args.atoms.now in
    let Absent = (E : Entries) → AreEntries what.entry P table E → ⊥ in
    finishes_map _ _ _ (ProgramShows what P table) _ (entry_refused what P table (at-none Absent (AreEntries what.entry P table) c.in-Ok.found c.in-None.is c.in-Ok.ensures.entries)) c.close.ensures.lines

pub returns-in_err-show_annotated-in-Some-clause-lines : goal.returns-in_err-show_annotated-in-Some-clause-lines
returns-in_err-show_annotated-in-Some-clause-lines g c =
    let same : c.from_residual.result ≡ Err c.in_err-show_annotated-in-Some.field-0.0 = search rules in
    let what = show_of c.args.command.now in
    let P = c.args.program.now in
    let table = c.args.atoms.now in
    let E = c.in-Some.entries in
    let Absent = (F : Entries) → AreEntries what.entry P table F → ⊥ in
    let is = at-some Absent (AreEntries what.entry P table) c.in-Ok.found E c.in-Some.is c.in-Ok.ensures.entries in
    passes_halt {T = Unit {0}} _ _ (λ _. IsPrinted c.kind_of-kind.result E P c.entries_of.new.atoms) (ProgramShows what P table)
    (λ ls any. (status.Done, shown_lines what P table c.entries_of.new.atoms c.in-Ok.ensures.atoms E is ls (subst (λ k. IsPrinted k E P c.entries_of.new.atoms ls) c.kind_of-kind.ensures any.1))) c.show_annotated.result _ c.in_err-show_annotated-in-Some.field-0.0 c.in_err-show_annotated-in-Some.was same
    c.show_annotated.ensures.lines

pub returns-in_ok-show_annotated-in-Some-clause-lines : goal.returns-in_ok-show_annotated-in-Some-clause-lines
returns-in_ok-show_annotated-in-Some-clause-lines g c =
    let what = show_of c.args.command.now in
    let P = c.args.program.now in
    let table = c.args.atoms.now in
    let E = c.in-Some.entries in
    let Absent = (F : Entries) → AreEntries what.entry P table F → ⊥ in
    let is = at-some Absent (AreEntries what.entry P table) c.in-Ok.found E c.in-Some.is c.in-Ok.ensures.entries in
    puts_map _ _ (IsPrinted c.kind_of-kind.result E P c.entries_of.new.atoms) (ProgramShows what P table status.Done)
    (λ ls h. shown_lines what P table c.entries_of.new.atoms c.in-Ok.ensures.atoms E is ls (subst (λ k. IsPrinted k E P c.entries_of.new.atoms ls) c.kind_of-kind.ensures h))
    c.in_ok-show_annotated-in-Some.ensures.lines
