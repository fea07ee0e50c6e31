use Rattle.std.proofs.Common.{◌≡◌, Err, rules}
use Rattle.ap_top.proofs.Counting.{block_counts}
use Rattle.ap_top.proofs.Printing.{query_puts, answers_halt, end_halts}
use Rattle.ap_top.proofs.answers.print_query.Goals as goal

pub returns-in_err-ended-clause-lines : goal.returns-in_err-ended-clause-lines
returns-in_err-ended-clause-lines g c =
    let same : c.from_residual.result ≡ Err c.in_err-ended.field-0.0 = search rules in
    answers_halt c.args.bounds.budget c.args.bounds.answers c.args.program.now c.args.atoms.now c.args.query.now _ _ c.put_answers.result _ c.in_err-ended.field-0.0 c.in_err-ended.was same c.put_answers.ensures.lines

pub returns-in_err-put_line-clause-lines : goal.returns-in_err-put_line-clause-lines
returns-in_err-put_line-clause-lines g c =
    let same : c.from_residual-in_err-put_line.result ≡ Err c.in_err-put_line.field-0.0 = search rules in
    end_halts c.args.bounds.budget c.args.bounds.answers c.args.program.now c.args.atoms.now c.args.query.now c.in_ok-ended.ended _ _ _ c.end_line.result.now c.put_line.result _ c.in_err-put_line.field-0.0 c.end_line.ensures c.in_err-put_line.was same
    c.in_ok-ended.ensures.lines c.put_line.ensures.lines

pub returns-clause-lines : goal.returns-clause-lines
returns-clause-lines g c =
    query_puts c.args.bounds.budget c.args.bounds.answers c.args.program.now c.args.atoms.now c.args.query.now c.in_ok-ended.ended _ _ _ c.end_line.result.now c.is_spent.result c.end_line.ensures c.is_spent.ensures
    c.in_ok-ended.ensures.lines c.in_ok-put_line.ensures.lines

pub returns-clause-counted : goal.returns-clause-counted
returns-clause-counted g c =
    block_counts c.args.bounds c.args.crew.now.workers c.args.program.now c.args.atoms.now c.args.query.now c.in_ok-ended.ended _ _ _ c.end_line.result.now c.end_line.ensures
    c.in_ok-ended.ensures.total c.in_ok-ended.ensures.one c.in_ok-ended.ensures.counted c.in_ok-put_line.ensures.lines
