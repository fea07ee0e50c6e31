use Rattle.std.proofs.Common.{◌≡◌, ◌≤◌, true, map, length, Err, refl, arith, rules}
use Rattle.std.proofs.lemmas.List.{length-map}
use Rattle.ap_outside.proofs.Puts.{puts_map}
use Rattle.ap_outside.proofs.Halts.{passes_halt}
use Rattle.ap_gen.specs.Generator.{question}
use Rattle.ap_top.specs.Status.{status_of}
use Rattle.ap_top.specs.Counted.{IsCountedOutput, QuestionCounted, usual}
use Rattle.ap_top.specs.Output.{judged}
use Rattle.ap_top.specs.Loads.{IsSummed, QuestionEnds}
use Rattle.ap_top.proofs.LoadLayers.{block_size, kept_lines, one_question, question_kept}
use Rattle.ap_top.proofs.load.load_program.Goals as goal

pub print_summed-requires-clause-few : goal.print_summed-requires-clause-few
print_summed-requires-clause-few g c κs within =
    let block = c.pieces.result.now in
    let kept = map (λ line. line.items) block in
    let ends = question_kept c.args.program.now c.args.atoms.now _ _ kept c.in-Ok.tally c.new-block.ensures c.pieces.ensures c.in-Ok.ensures.lines in
    let few : length kept ≤ 1000001 = (block_size 10000000 1000000 c.args.program.now c.args.atoms.now question one_question.0 c.in-Ok.tally kept ends).1 in
    let same : length kept ≡ length block = length-map block (λ line. line.items) in
    omega (arith, few, same)

pub print_summed-requires-clause-ended : goal.print_summed-requires-clause-ended
print_summed-requires-clause-ended g c κs within = λ _.
    let block = c.pieces.result.now in
    let kept = map (λ line. line.items) block in
    let ends = question_kept c.args.program.now c.args.atoms.now _ _ kept c.in-Ok.tally c.new-block.ensures c.pieces.ensures c.in-Ok.ensures.lines in
    let some = (block_size 10000000 1000000 c.args.program.now c.args.atoms.now question one_question.0 c.in-Ok.tally kept ends).0 in
    let same : length kept ≡ length block = length-map block (λ line. line.items) in
    omega (arith, some, same)

pub returns-in_err-print_summed-in-Ok-clause-lines : goal.returns-in_err-print_summed-in-Ok-clause-lines
returns-in_err-print_summed-in-Ok-clause-lines g c =
    let same : c.from_residual.result ≡ Err c.in_err-print_summed-in-Ok.field-0.0 = search rules in
    let kept = map (λ line. line.items) c.pieces.result.now in
    let t = c.in-Ok.tally in
    let ends = question_kept c.args.program.now c.args.atoms.now _ _ kept t c.new-block.ensures c.pieces.ensures c.in-Ok.ensures.lines in
    passes_halt {T = Unit {0}} _ _ (λ _. IsSummed c.args.seed c.args.size t.refused kept) (QuestionEnds c.args.seed c.args.size c.args.program.now c.args.atoms.now)
    (λ ls any. (status_of t, QuestionEnds.asked one_question.0 t (status_of t) kept ls one_question.1 ends any.1 refl))
    c.print_summed.result _ c.in_err-print_summed-in-Ok.field-0.0 c.in_err-print_summed-in-Ok.was same c.print_summed.ensures.lines

pub returns-clause-lines : goal.returns-clause-lines
returns-clause-lines g c =
    let kept = map (λ line. line.items) c.pieces.result.now in
    let t = c.in-Ok.tally in
    let ends = question_kept c.args.program.now c.args.atoms.now _ _ kept t c.new-block.ensures c.pieces.ensures c.in-Ok.ensures.lines in
    puts_map _ _ (IsSummed c.args.seed c.args.size t.refused kept) (QuestionEnds c.args.seed c.args.size c.args.program.now c.args.atoms.now c.status.result)
    (λ ls h. QuestionEnds.asked one_question.0 t c.status.result kept ls one_question.1 ends h c.status.ensures) c.in_ok-print_summed-in-Ok.ensures.lines

pub returns-clause-counted : goal.returns-clause-counted
returns-clause-counted g c =
    let kept = map (λ line. line.items) c.pieces.result.now in
    let workers = c.args.crew.now.workers in
    let t = c.in-Ok.tally in
    let counted = kept_lines _ _ (IsCountedOutput usual workers c.args.program.now c.args.atoms.now question (judged true question)) kept c.new-block.ensures c.pieces.ensures c.in-Ok.ensures.counted in
    puts_map _ _ (IsSummed c.args.seed c.args.size t.refused kept) (QuestionCounted c.args.seed c.args.size workers c.args.program.now c.args.atoms.now)
    (λ ls h. (kept, t.refused, counted, h)) c.in_ok-print_summed-in-Ok.ensures.lines
