use Rattle.std.proofs.Common.{◌≡◌, ◌≤◌, length, refl, rules}
use Rattle.ap_outside.specs.Faults.{Rises}
use Rattle.ap_outside.specs.Files.{HasContent}
use Rattle.ap_outside.proofs.Halts.{finishes_map, halts_at_once}
use Rattle.ap_words.specs.Asked.{run_of}
use Rattle.ap_top.specs.Counted.{FileCounted, TextCounted}
use Rattle.ap_top.specs.Ends.{FileEnds, TextEnds, FailsBehind}
use Rattle.ap_top.proofs.Counting.{closed_counts, counts_map, file_counts}
use Rattle.ap_top.proofs.Layers.{file_fault, file_too_long, file_read, text_status}
use Rattle.ap_top.specs.declared.status.Status.TheVariants as status
use Rattle.ap_top.proofs.Statuses.{files_kept, stays_found}
use Rattle.ap_top.proofs.command.run_file.Goals as goal

pub returns-in-Err-Failed-clause-lines : goal.returns-in-Err-Failed-clause-lines
returns-in-Err-Failed-clause-lines g c =
    let what = run_of c.args.command.now in
    let entries = g.F.Files.entries c.args.files.now in
    let left = g.S.Source.left c.args.queries.now in
    let Fault = Rises (g.F.Files.faults c.args.files.now) (g.F.Files.faults c.read.new.self) in
    let Rose = FailsBehind (g.S.Source.left c.args.queries.now) (g.S.Source.left c.args.queries.now) (Rises (g.S.Source.faults c.args.queries.now) (g.S.Source.faults c.args.queries.now)) in
    finishes_map _ _ _ (FileEnds what entries left Fault Rose) _ (file_fault what entries left Fault Rose (c.in-Err-Failed.ensures.cause (cc))) c.close.ensures.lines

pub returns-in-Err-NoMemory-clause-lines : goal.returns-in-Err-NoMemory-clause-lines
returns-in-Err-NoMemory-clause-lines g c =
    let Fault = Rises (g.F.Files.faults c.args.files.now) (g.F.Files.faults c.read.new.self) in
    let Rose = FailsBehind (g.S.Source.left c.args.queries.now) (g.S.Source.left c.args.queries.now) (Rises (g.S.Source.faults c.args.queries.now) (g.S.Source.faults c.args.queries.now)) in
    halts_at_once (g.K.Sink.pieces c.args.out.now) (FileEnds (run_of c.args.command.now) (g.F.Files.entries c.args.files.now) (g.S.Source.left c.args.queries.now) Fault Rose)

pub returns-in-Ok-TooLong-clause-lines : goal.returns-in-Ok-TooLong-clause-lines
returns-in-Ok-TooLong-clause-lines g c =
    let what = run_of c.args.command.now in
    let entries = g.F.Files.entries c.args.files.now in
    let left = g.S.Source.left c.args.queries.now in
    let Fault = Rises (g.F.Files.faults c.args.files.now) (g.F.Files.faults c.read.new.self) in
    let Rose = FailsBehind (g.S.Source.left c.args.queries.now) (g.S.Source.left c.args.queries.now) (Rises (g.S.Source.faults c.args.queries.now) (g.S.Source.faults c.args.queries.now)) in
    finishes_map _ _ _ (FileEnds what entries left Fault Rose) _ (file_too_long what entries left Fault Rose (c.in-Ok-TooLong.ensures.too_long (cc))) c.close-in-Ok-TooLong.ensures.lines

pub returns-clause-lines : goal.returns-clause-lines
returns-clause-lines g c =
    let what = run_of c.args.command.now in
    let entries = g.F.Files.entries c.args.files.now in
    let left = g.S.Source.left c.args.queries.now in
    let Fault = Rises (g.F.Files.faults c.args.files.now) (g.F.Files.faults c.read.new.self) in
    let Rose = FailsBehind (g.S.Source.left c.args.queries.now) (g.S.Source.left c.run_text.new.queries) (Rises (g.S.Source.faults c.args.queries.now) (g.S.Source.faults c.run_text.new.queries)) in
    let whole = c.in-Ok-Whole.ensures.whole (cc) in
    let fits = c.in-Ok-Whole.ensures.fits (cc) in
    let has : HasContent entries what.file (λ content. c.read.new.into.items ≡ content) = whole in
    let short : length c.read.new.into.items ≤ 16777216 = fits in
    finishes_map _ _ (TextEnds what c.read.new.into.items left Rose) (FileEnds what entries left Fault Rose) _ (file_read what entries left Fault Rose c.read.new.into.items has short) c.run_text.ensures.lines

pub returns-clause-files : goal.returns-clause-files
returns-clause-files g c =
    let what = run_of c.args.command.now in
    let text = c.read.new.into.items in
    let left = g.S.Source.left c.args.queries.now in
    let Rose = FailsBehind (g.S.Source.left c.args.queries.now) (g.S.Source.left c.run_text.new.queries) (Rises (g.S.Source.faults c.args.queries.now) (g.S.Source.faults c.run_text.new.queries)) in
    files_kept _ _ (TextEnds what text left Rose) (λ ls ends. (text_status what text left Rose status.FileFault ls ends).0 refl) _ _ c.run_text.result (search rules) c.run_text.ensures.lines

-- ---- what is told of each query

pub returns-in-Err-Failed-clause-counted : goal.returns-in-Err-Failed-clause-counted
returns-in-Err-Failed-clause-counted g c = closed_counts _ status.FileFault (λ h. h) c.close.result c.close.ensures.status

pub returns-in-Ok-TooLong-clause-counted : goal.returns-in-Ok-TooLong-clause-counted
returns-in-Ok-TooLong-clause-counted g c = closed_counts _ status.ProgramRefused (λ h. h) c.close-in-Ok-TooLong.result c.close-in-Ok-TooLong.ensures.status

pub returns-clause-counted : goal.returns-clause-counted
returns-clause-counted g c =
    let what = run_of c.args.command.now in
    let entries = g.F.Files.entries c.args.files.now in
    let left = g.S.Source.left c.args.queries.now in
    let text = c.read.new.into.items in
    let whole = c.in-Ok-Whole.ensures.whole (cc) in
    let has : HasContent entries what.file (λ content. text ≡ content) = whole in
    counts_map _ _ (TextCounted what text left) (FileCounted what entries left) (file_counts what entries left text has) c.run_text.result c.run_text.ensures.counted

-- ---- the source

pub returns-in-Err-Failed-clause-unread : goal.returns-in-Err-Failed-clause-unread
returns-in-Err-Failed-clause-unread g c = stays_found _ refl c.close.result

pub returns-in-Ok-TooLong-clause-unread : goal.returns-in-Ok-TooLong-clause-unread
returns-in-Ok-TooLong-clause-unread g c = stays_found _ refl c.close-in-Ok-TooLong.result
