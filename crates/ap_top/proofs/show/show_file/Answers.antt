use Rattle.std.proofs.Common.{◌≡◌, ◌≤◌, length, refl, rules}
use Rattle.ap_outside.specs.Faults.{Rises}
use Rattle.ap_outside.specs.Files.{HasContent}
use Rattle.ap_outside.proofs.Halts.{finishes_map, halts_at_once}
use Rattle.ap_words.specs.Asked.{show_of}
use Rattle.ap_top.specs.Shows.{FileShows, TextShows}
use Rattle.ap_top.proofs.ShowLayers.{show_fault, show_too_long, show_read, show_text_calm}
use Rattle.ap_top.specs.declared.status.Status.TheVariants as status
use Rattle.ap_top.proofs.Statuses.{files_kept}
use Rattle.ap_top.proofs.show.show_file.Goals as goal

pub returns-in-Err-Failed-clause-lines : goal.returns-in-Err-Failed-clause-lines
returns-in-Err-Failed-clause-lines g c =
    let what = show_of c.args.command.now in
    let entries = g.F.Files.entries c.args.files.now in
    let Fault = Rises (g.F.Files.faults c.args.files.now) (g.F.Files.faults c.read.new.self) in
    finishes_map _ _ _ (FileShows what entries Fault) _ (show_fault what entries Fault (c.in-Err-Failed.ensures.cause (cc))) c.close.ensures.lines

pub returns-in-Err-NoMemory-clause-lines : goal.returns-in-Err-NoMemory-clause-lines
returns-in-Err-NoMemory-clause-lines g c =
    let Fault = Rises (g.F.Files.faults c.args.files.now) (g.F.Files.faults c.read.new.self) in
    halts_at_once (g.K.Sink.pieces c.args.out.now) (FileShows (show_of c.args.command.now) (g.F.Files.entries c.args.files.now) Fault)

pub returns-in-Ok-TooLong-clause-lines : goal.returns-in-Ok-TooLong-clause-lines
returns-in-Ok-TooLong-clause-lines g c =
    let what = show_of c.args.command.now in
    let entries = g.F.Files.entries c.args.files.now in
    let Fault = Rises (g.F.Files.faults c.args.files.now) (g.F.Files.faults c.read.new.self) in
    finishes_map _ _ _ (FileShows what entries Fault) _ (show_too_long what entries Fault (c.in-Ok-TooLong.ensures.too_long (cc))) c.close-in-Ok-TooLong.ensures.lines

pub returns-clause-lines : goal.returns-clause-lines
returns-clause-lines g c =
    let what = show_of c.args.command.now in
    let entries = g.F.Files.entries c.args.files.now in
    let Fault = Rises (g.F.Files.faults c.args.files.now) (g.F.Files.faults c.read.new.self) in
    let whole = c.in-Ok-Whole.ensures.whole (cc) in
    let fits = c.in-Ok-Whole.ensures.fits (cc) in
    let has : HasContent entries what.file (λ content. c.deref.result.now ≡ content) = rw c.deref.ensures.value whole in
    let short : length c.deref.result.now ≤ 16777216 = rw c.deref.ensures.value fits in
    finishes_map _ _ (TextShows what c.deref.result.now) (FileShows what entries Fault) _ (show_read what entries Fault c.deref.result.now has short) c.show_text.ensures.lines

pub returns-clause-files : goal.returns-clause-files
returns-clause-files g c =
    let what = show_of c.args.command.now in
    let text = c.deref.result.now in
    files_kept _ _ (TextShows what text) (λ ls ends. (show_text_calm what text status.FileFault ls ends).0 refl) _ _ c.show_text.result (search rules) c.show_text.ensures.lines
