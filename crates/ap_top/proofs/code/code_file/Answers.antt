use Rattle.std.proofs.Common.{◌≡◌, ◌≤◌, length, refl, rules}
use Rattle.ap_outside.specs.Faults.{Rises}
use Rattle.ap_outside.specs.Files.{HasContent}
use Rattle.ap_outside.proofs.Halts.{finishes_map, halts_at_once}
use Rattle.ap_top.specs.Codes.{FileCodes, TextCodes}
use Rattle.ap_top.proofs.CodeLayers.{code_fault, code_too_long, code_read, code_text_calm}
use Rattle.ap_top.specs.declared.status.Status.TheVariants as status
use Rattle.ap_top.proofs.Statuses.{files_kept}
use Rattle.ap_top.proofs.code.code_file.Goals as goal

pub returns-in-Err-Failed-clause-lines : goal.returns-in-Err-Failed-clause-lines
returns-in-Err-Failed-clause-lines g c =
    let file = c.args.file.now in
    let entries = g.F.Files.entries c.args.files.now in
    let Fault = Rises (g.F.Files.faults c.args.files.now) (g.F.Files.faults c.read.new.self) in
    finishes_map _ _ _ (FileCodes file entries Fault) _ (code_fault file entries Fault (c.in-Err-Failed.ensures.cause (cc))) c.close.ensures.lines

pub returns-in-Err-NoMemory-clause-lines : goal.returns-in-Err-NoMemory-clause-lines
returns-in-Err-NoMemory-clause-lines g c =
    let Fault = Rises (g.F.Files.faults c.args.files.now) (g.F.Files.faults c.read.new.self) in
    halts_at_once (g.K.Sink.pieces c.args.out.now) (FileCodes c.args.file.now (g.F.Files.entries c.args.files.now) Fault)

pub returns-in-Ok-TooLong-clause-lines : goal.returns-in-Ok-TooLong-clause-lines
returns-in-Ok-TooLong-clause-lines g c =
    let file = c.args.file.now in
    let entries = g.F.Files.entries c.args.files.now in
    let Fault = Rises (g.F.Files.faults c.args.files.now) (g.F.Files.faults c.read.new.self) in
    finishes_map _ _ _ (FileCodes file entries Fault) _ (code_too_long file entries Fault (c.in-Ok-TooLong.ensures.too_long (cc))) c.close-in-Ok-TooLong.ensures.lines

pub returns-clause-lines : goal.returns-clause-lines
returns-clause-lines g c =
    let file = c.args.file.now in
    let entries = g.F.Files.entries c.args.files.now in
    let Fault = Rises (g.F.Files.faults c.args.files.now) (g.F.Files.faults c.read.new.self) in
    let whole = c.in-Ok-Whole.ensures.whole (cc) in
    let fits = c.in-Ok-Whole.ensures.fits (cc) in
    let has : HasContent entries file (λ content. c.deref.result.now ≡ content) = rw c.deref.ensures.value whole in
    let short : length c.deref.result.now ≤ 16777216 = rw c.deref.ensures.value fits in
    finishes_map _ _ (TextCodes c.deref.result.now) (FileCodes file entries Fault) _ (code_read file entries Fault c.deref.result.now has short) c.code_text.ensures.lines

pub returns-clause-files : goal.returns-clause-files
returns-clause-files g c =
    let text = c.deref.result.now in
    files_kept _ _ (TextCodes text) (λ ls ends. (code_text_calm text status.FileFault ls ends).0 refl) _ _ c.code_text.result (search rules) c.code_text.ensures.lines
