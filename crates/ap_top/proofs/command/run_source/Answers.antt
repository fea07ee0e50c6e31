use Rattle.std.proofs.Common.{◌≡◌, ◌≤◌, true, false, length, subst, refl, Err, rules}
use Rattle.ap_outside.specs.Faults.{Rises}
use Rattle.ap_outside.specs.Pieces.{Puts}
use Rattle.ap_outside.proofs.Puts.{puts_map}
use Rattle.ap_outside.proofs.Halts.{finishes_map, passes_halt, halts_at_once}
use Rattle.ap_words.specs.Asked.{run_of}
use Rattle.ap_top.specs.Counted.{IsCountedOutput, SourceCounted, bounds_of}
use Rattle.ap_top.specs.Output.{IsOutput, judged}
use Rattle.ap_top.specs.Status.{status_of}
use Rattle.ap_top.specs.Ends.{SourceEnds, IsTaken, IsTold, FailsBehind}
use Rattle.ap_top.specs.declared.status.Status.TheVariants as status
use Rattle.ap_top.proofs.Counting.{closed_counts, fault_counts, whole_counts}
use Rattle.ap_top.proofs.Layers.{source_fault, taken_first, taken_halts, source_too_long, told_whole}
use Rattle.ap_top.proofs.command.run_source.Goals as goal

pub returns-in_err-print_text-in-Err-Failed-clause-lines : goal.returns-in_err-print_text-in-Err-Failed-clause-lines
returns-in_err-print_text-in-Err-Failed-clause-lines g c =
    let same : c.from_residual.result ≡ Err c.in_err-print_text-in-Err-Failed.field-0.0 = search rules in
    let left = g.S.Source.left c.args.queries.now in
    let Rose = FailsBehind (g.S.Source.left c.args.queries.now) (g.S.Source.left c.drain.new.source) (Rises (g.S.Source.faults c.args.queries.now) (g.S.Source.faults c.drain.new.source)) in
    let rose : Rose c.deref.result.now = (c.in-Err-Failed.ensures.cause (cc), rw c.deref.ensures.value (c.in-Err-Failed.ensures.taken (cc))) in
    let short : length c.deref.result.now ≤ 16777216 = rw c.deref.ensures.value c.in-Err-Failed.ensures.short in
    taken_halts (run_of c.args.command.now) c.args.program.now c.args.atoms.now left Rose c.deref.result.now rose short
    _ _ c.print_text.result _ c.in_err-print_text-in-Err-Failed.field-0.0 c.in_err-print_text-in-Err-Failed.was same c.print_text.ensures.lines

pub returns-in-Err-Failed-clause-lines : goal.returns-in-Err-Failed-clause-lines
returns-in-Err-Failed-clause-lines g c =
    let left = g.S.Source.left c.args.queries.now in
    let Rose = FailsBehind (g.S.Source.left c.args.queries.now) (g.S.Source.left c.drain.new.source) (Rises (g.S.Source.faults c.args.queries.now) (g.S.Source.faults c.drain.new.source)) in
    let rose : Rose c.deref.result.now = (c.in-Err-Failed.ensures.cause (cc), rw c.deref.ensures.value (c.in-Err-Failed.ensures.taken (cc))) in
    let short : length c.deref.result.now ≤ 16777216 = rw c.deref.ensures.value c.in-Err-Failed.ensures.short in
    source_fault (run_of c.args.command.now) c.args.program.now c.args.atoms.now left Rose c.deref.result.now rose short
    _ _ _ c.in_ok-print_text-in-Err-Failed.field-0 c.close.result c.in_ok-print_text-in-Err-Failed.ensures.lines c.close.ensures.lines

pub returns-in-Err-TooLong-clause-lines : goal.returns-in-Err-TooLong-clause-lines
returns-in-Err-TooLong-clause-lines g c =
    let more = c.in-Err-TooLong.ensures.too_long (cc) in
    let what = run_of c.args.command.now in
    let left = g.S.Source.left c.args.queries.now in
    let Rose = FailsBehind (g.S.Source.left c.args.queries.now) (g.S.Source.left c.drain.new.source) (Rises (g.S.Source.faults c.args.queries.now) (g.S.Source.faults c.drain.new.source)) in
    finishes_map _ _ _ (SourceEnds what c.args.program.now c.args.atoms.now left Rose) _
    (source_too_long what c.args.program.now c.args.atoms.now left (g.S.Source.left c.drain.new.source) more.0 Rose more.1 more.2) c.close-in-Err-TooLong.ensures.lines

pub returns-in-Err-NoMemory-clause-lines : goal.returns-in-Err-NoMemory-clause-lines
returns-in-Err-NoMemory-clause-lines g c =
    let Rose = FailsBehind (g.S.Source.left c.args.queries.now) (g.S.Source.left c.drain.new.source) (Rises (g.S.Source.faults c.args.queries.now) (g.S.Source.faults c.drain.new.source)) in
    halts_at_once (g.K.Sink.pieces c.args.out.now) (SourceEnds (run_of c.args.command.now) c.args.program.now c.args.atoms.now (g.S.Source.left c.args.queries.now) Rose)

pub returns-in_err-tally-in-Ok-clause-lines : goal.returns-in_err-tally-in-Ok-clause-lines
returns-in_err-tally-in-Ok-clause-lines g c =
    let same : c.from_residual-in_err-tally-in-Ok.result ≡ Err c.in_err-tally-in-Ok.field-0.0 = search rules in
    let what = run_of c.args.command.now in
    let text = c.deref-in-Ok.result.now in
    let left = g.S.Source.left c.args.queries.now in
    let Rose = FailsBehind (g.S.Source.left c.args.queries.now) (g.S.Source.left c.drain.new.source) (Rises (g.S.Source.faults c.args.queries.now) (g.S.Source.faults c.drain.new.source)) in
    let told : IsTold left text = rw c.deref-in-Ok.ensures.value (told_whole left (g.S.Source.left c.drain.new.source) c.drain.new.all.items c.in-Ok.ensures.bytes c.in-Ok.ensures.end) in
    let short : length text ≤ 16777216 = rw c.deref-in-Ok.ensures.value c.in-Ok.ensures.short in
    passes_halt _ _ (IsOutput what.budget what.answers c.args.program.now c.args.atoms.now text (judged true text)) (SourceEnds what c.args.program.now c.args.atoms.now left Rose)
    (λ ls any. (status_of any.0, SourceEnds.read text any.0 (status_of any.0) ls told short any.1 refl))
    c.print_text-in-Ok.result _ c.in_err-tally-in-Ok.field-0.0 c.in_err-tally-in-Ok.was same c.print_text-in-Ok.ensures.lines

pub returns-clause-lines : goal.returns-clause-lines
returns-clause-lines g c =
    let what = run_of c.args.command.now in
    let text = c.deref-in-Ok.result.now in
    let left = g.S.Source.left c.args.queries.now in
    let Rose = FailsBehind (g.S.Source.left c.args.queries.now) (g.S.Source.left c.drain.new.source) (Rises (g.S.Source.faults c.args.queries.now) (g.S.Source.faults c.drain.new.source)) in
    let told : IsTold left text = rw c.deref-in-Ok.ensures.value (told_whole left (g.S.Source.left c.drain.new.source) c.drain.new.all.items c.in-Ok.ensures.bytes c.in-Ok.ensures.end) in
    let short : length text ≤ 16777216 = rw c.deref-in-Ok.ensures.value c.in-Ok.ensures.short in
    let t = c.in_ok-tally-in-Ok.tally in
    puts_map _ _ (IsOutput what.budget what.answers c.args.program.now c.args.atoms.now text (judged true text) t) (SourceEnds what c.args.program.now c.args.atoms.now left Rose c.status.result)
    (λ ls out. SourceEnds.read text t c.status.result ls told short out c.status.ensures) c.in_ok-tally-in-Ok.ensures.lines

-- ---- what is told of each query

pub returns-in-Err-Failed-clause-counted : goal.returns-in-Err-Failed-clause-counted
returns-in-Err-Failed-clause-counted g c =
    let what = run_of c.args.command.now in
    let text = c.deref.result.now in
    let left = g.S.Source.left c.args.queries.now in
    let first : IsTaken left text = rw c.deref.ensures.value (taken_first left (g.S.Source.left c.drain.new.source) c.drain.new.all.items (c.in-Err-Failed.ensures.taken (cc))) in
    fault_counts what c.args.program.now c.args.atoms.now left text first _ _ _ c.close.result
    (subst (λ w. Puts (g.K.Sink.pieces c.args.out.now) (g.K.Sink.pieces c.print_text.new.out) (IsCountedOutput (bounds_of what) w c.args.program.now c.args.atoms.now text (judged false text))) c.requires.workers
    (subst (λ k. Puts (g.K.Sink.pieces c.args.out.now) (g.K.Sink.pieces c.print_text.new.out) (IsCountedOutput (record { budget = what.budget; answers = what.answers; kind = k }) c.args.crew.now.workers c.args.program.now c.args.atoms.now text (judged false text))) c.kind_of.ensures c.in_ok-print_text-in-Err-Failed.ensures.counted)) c.close.ensures.lines

pub returns-in-Err-TooLong-clause-counted : goal.returns-in-Err-TooLong-clause-counted
returns-in-Err-TooLong-clause-counted g c = closed_counts _ status.QueriesTooLong (λ h. h) c.close-in-Err-TooLong.result c.close-in-Err-TooLong.ensures.status

pub returns-clause-counted : goal.returns-clause-counted
returns-clause-counted g c = λ h.
    let what = run_of c.args.command.now in
    let text = c.deref-in-Ok.result.now in
    let left = g.S.Source.left c.args.queries.now in
    let told : IsTold left text = rw c.deref-in-Ok.ensures.value (told_whole left (g.S.Source.left c.drain.new.source) c.drain.new.all.items c.in-Ok.ensures.bytes c.in-Ok.ensures.end) in
    let t = c.in_ok-tally-in-Ok.tally in
    puts_map _ _ (IsCountedOutput (bounds_of what) what.workers c.args.program.now c.args.atoms.now text (judged true text)) (SourceCounted what c.args.program.now c.args.atoms.now left c.status.result)
    (whole_counts what c.args.program.now c.args.atoms.now left text told t.spent t.refused c.status.result c.status.ensures)
    (subst (λ w. Puts (g.K.Sink.pieces c.args.out.now) (g.K.Sink.pieces c.print_text-in-Ok.new.out) (IsCountedOutput (bounds_of what) w c.args.program.now c.args.atoms.now text (judged true text))) c.requires.workers
    (subst (λ k. Puts (g.K.Sink.pieces c.args.out.now) (g.K.Sink.pieces c.print_text-in-Ok.new.out) (IsCountedOutput (record { budget = what.budget; answers = what.answers; kind = k }) c.args.crew.now.workers c.args.program.now c.args.atoms.now text (judged true text))) c.kind_of.ensures c.in_ok-tally-in-Ok.ensures.counted))
