use Rattle.std.proofs.Common.{◌≡◌, ap, refl, IfOk, sym, ◌∙◌, subst}
use Rattle.ap_outside.specs.Faults.{Rises}
use Rattle.ap_outside.specs.Pieces.{Puts}
use Rattle.ap_outside.proofs.Halts.{finishes_map}
use Rattle.ap_words.specs.Asked.{asked_of, codes_of, loads, run_of, runs, show_of, shows}
use Rattle.ap_words.specs.Reading.{asks}
use Rattle.ap_top.specs.Shows.{FileShows}
use Rattle.ap_top.specs.Codes.{FileCodes}
use Rattle.ap_top.specs.Loads.{LoadEnds}
use Rattle.ap_top.specs.Counted.{AskedCounted, HasAnswered, LoadCounted}
use Rattle.ap_top.proofs.Counting.{none_counts}
use Rattle.ap_top.specs.Ends.{AskedEnds, FileEnds, FailsBehind}
use Rattle.ap_top.specs.declared.status.Status.TheVariants as status
use Rattle.ap_top.proofs.Statuses.{source_kept, stays_found}
use Rattle.ap_top.proofs.ShowLayers.{show_status}
use Rattle.ap_top.proofs.command.run_asked.Goals as goal

pub returns-in-Run-clause-lines : goal.returns-in-Run-clause-lines
returns-in-Run-clause-lines g c =
    let entries = g.F.Files.entries c.args.files.now in
    let left = g.S.Source.left c.args.queries.now in
    let Fault = Rises (g.F.Files.faults c.args.files.now) (g.F.Files.faults c.run_file.new.files) in
    let Rose = FailsBehind (g.S.Source.left c.args.queries.now) (g.S.Source.left c.run_file.new.queries) (Rises (g.S.Source.faults c.args.queries.now) (g.S.Source.faults c.run_file.new.queries)) in
    let r = asks (asked_of c.args.asked) in
    let what = run_of c.in-Run.command in
    let named : r ≡ asks (runs what) = ap (λ w. asks (asked_of w)) c.in-Run.is in
    finishes_map _ _ (FileEnds what entries left Fault Rose) (AskedEnds r entries left Fault Rose) _ (λ s ls ends. AskedEnds.ran what s ls named ends) c.run_file.ensures.lines

pub returns-in-Show-clause-lines : goal.returns-in-Show-clause-lines
returns-in-Show-clause-lines g c =
    let entries = g.F.Files.entries c.args.files.now in
    let left = g.S.Source.left c.args.queries.now in
    let Fault = Rises (g.F.Files.faults c.args.files.now) (g.F.Files.faults c.show_file.new.files) in
    let Rose = FailsBehind (g.S.Source.left c.args.queries.now) (g.S.Source.left c.args.queries.now) (Rises (g.S.Source.faults c.args.queries.now) (g.S.Source.faults c.args.queries.now)) in
    let r = asks (asked_of c.args.asked) in
    let what = show_of c.in-Show.command in
    let named : r ≡ asks (shows what) = ap (λ w. asks (asked_of w)) c.in-Show.is in
    finishes_map _ _ (FileShows what entries Fault) (AskedEnds r entries left Fault Rose) _ (λ s ls ends. AskedEnds.shown what s ls named ends) c.show_file.ensures.lines

pub returns-in-Code-clause-lines : goal.returns-in-Code-clause-lines
returns-in-Code-clause-lines g c =
    let entries = g.F.Files.entries c.args.files.now in
    let left = g.S.Source.left c.args.queries.now in
    let Fault = Rises (g.F.Files.faults c.args.files.now) (g.F.Files.faults c.code_file.new.files) in
    let Rose = FailsBehind (g.S.Source.left c.args.queries.now) (g.S.Source.left c.args.queries.now) (Rises (g.S.Source.faults c.args.queries.now) (g.S.Source.faults c.args.queries.now)) in
    let r = asks (asked_of c.args.asked) in
    let what = c.in-Code.file.now in
    let named : r ≡ asks (codes_of what) = ap (λ w. asks (asked_of w)) c.in-Code.is in
    finishes_map _ _ (FileCodes what entries Fault) (AskedEnds r entries left Fault Rose) _ (λ s ls ends. AskedEnds.coded what s ls named ends) c.code_file.ensures.lines

pub returns-in-Load-clause-lines : goal.returns-in-Load-clause-lines
returns-in-Load-clause-lines g c =
    let entries = g.F.Files.entries c.args.files.now in
    let left = g.S.Source.left c.args.queries.now in
    let Fault = Rises (g.F.Files.faults c.args.files.now) (g.F.Files.faults c.args.files.now) in
    let Rose = FailsBehind (g.S.Source.left c.args.queries.now) (g.S.Source.left c.args.queries.now) (Rises (g.S.Source.faults c.args.queries.now) (g.S.Source.faults c.args.queries.now)) in
    let r = asks (asked_of c.args.asked) in
    let named = ap (λ w. asks (asked_of w)) c.in-Load.is in
    finishes_map _ _ (LoadEnds c.in-Load.seed c.in-Load.size) (AskedEnds r entries left Fault Rose) _ (λ s ls ends. AskedEnds.loaded c.in-Load.seed c.in-Load.size _ s ls named ends) c.load.ensures.lines

pub returns-in-Show-clause-source : goal.returns-in-Show-clause-source
returns-in-Show-clause-source g c =
    let entries = g.F.Files.entries c.args.files.now in
    let Fault = Rises (g.F.Files.faults c.args.files.now) (g.F.Files.faults c.show_file.new.files) in
    let what = show_of c.in-Show.command in
    source_kept _ _ (FileShows what entries Fault) (λ ls ends. (show_status what entries Fault status.SourceFault ls ends).1 refl) _ c.show_file.result c.show_file.ensures.lines

-- ---- what is told of each query

pub returns-in-Run-clause-counted : goal.returns-in-Run-clause-counted
returns-in-Run-clause-counted g c = λ what is.
    let named : asks (runs (run_of c.in-Run.command)) ≡ asks what = sym (ap (λ w. asks (asked_of w)) c.in-Run.is) ∙ is in
    let same : runs (run_of c.in-Run.command) ≡ what = cc in
    subst (λ w. IfOk c.run_file.result (λ s. HasAnswered s → Puts (g.K.Sink.pieces c.args.out.now) (g.K.Sink.pieces c.run_file.new.out) (AskedCounted w (g.F.Files.entries c.args.files.now) (g.S.Source.left c.args.queries.now) s))) same
    c.run_file.ensures.counted

pub returns-in-Show-clause-counted : goal.returns-in-Show-clause-counted
returns-in-Show-clause-counted g c = λ what is.
    let named : asks (shows (show_of c.in-Show.command)) ≡ asks what = sym (ap (λ w. asks (asked_of w)) c.in-Show.is) ∙ is in
    let same : shows (show_of c.in-Show.command) ≡ what = cc in
    subst (λ w. IfOk c.show_file.result (λ s. HasAnswered s → Puts (g.K.Sink.pieces c.args.out.now) (g.K.Sink.pieces c.show_file.new.out) (AskedCounted w (g.F.Files.entries c.args.files.now) (g.S.Source.left c.args.queries.now) s))) same
    (none_counts _ _ _ c.show_file.result c.show_file.ensures.lines)

pub returns-in-Code-clause-counted : goal.returns-in-Code-clause-counted
returns-in-Code-clause-counted g c = λ what is.
    let named : asks (codes_of c.in-Code.file.now) ≡ asks what = sym (ap (λ w. asks (asked_of w)) c.in-Code.is) ∙ is in
    let same : codes_of c.in-Code.file.now ≡ what = cc in
    subst (λ w. IfOk c.code_file.result (λ s. HasAnswered s → Puts (g.K.Sink.pieces c.args.out.now) (g.K.Sink.pieces c.code_file.new.out) (AskedCounted w (g.F.Files.entries c.args.files.now) (g.S.Source.left c.args.queries.now) s))) same
    (none_counts _ _ _ c.code_file.result c.code_file.ensures.lines)

pub returns-in-Load-clause-counted : goal.returns-in-Load-clause-counted
returns-in-Load-clause-counted g c = λ what is.
    let named : asks (loads c.in-Load.seed c.in-Load.size c.in-Load.workers) ≡ asks what = sym (ap (λ w. asks (asked_of w)) c.in-Load.is) ∙ is in
    let same : loads c.in-Load.seed c.in-Load.size c.in-Load.workers ≡ what = cc in
    let counted = subst (λ n. IfOk c.load.result (λ s. HasAnswered s → Puts (g.K.Sink.pieces c.args.out.now) (g.K.Sink.pieces c.load.new.out) (LoadCounted c.in-Load.seed c.in-Load.size n))) c.crew_of-crew-in-Load.ensures c.load.ensures.counted in
    subst (λ w. IfOk c.load.result (λ s. HasAnswered s → Puts (g.K.Sink.pieces c.args.out.now) (g.K.Sink.pieces c.load.new.out) (AskedCounted w (g.F.Files.entries c.args.files.now) (g.S.Source.left c.args.queries.now) s))) same counted

-- ---- the source

pub returns-in-Run-clause-unasked : goal.returns-in-Run-clause-unasked
returns-in-Run-clause-unasked g c = λ other. absurd (other (run_of c.in-Run.command) (ap (λ w. asks (asked_of w)) c.in-Run.is))

pub returns-in-Show-clause-unread : goal.returns-in-Show-clause-unread
returns-in-Show-clause-unread g c = stays_found _ refl c.show_file.result

pub returns-in-Code-clause-unread : goal.returns-in-Code-clause-unread
returns-in-Code-clause-unread g c = stays_found _ refl c.code_file.result

pub returns-in-Load-clause-unread : goal.returns-in-Load-clause-unread
returns-in-Load-clause-unread g c = stays_found _ refl c.load.result
