use Rattle.std.proofs.Common.{◌≡◌, subst}
use Rattle.ap_term.specs.WellFormed.{IsProgram}
use Rattle.ap_top.proofs.Grouped.{grouped-read, grouped-asked, grouped-safe}
use Rattle.ap_top.proofs.Parts.{part-asked, part-finishes, part-counted}
use Rattle.ap_top.proofs.SameCode.{with_code}
use Rattle.ap_top.proofs.answers.put_answers.Goals as goal

pub solve_with_pads-ended-requires-clause-asked : goal.solve_with_pads-ended-requires-clause-asked
solve_with_pads-ended-requires-clause-asked g c κs within =
    let p = c.args.program.now in
    let q = c.args.query.now in
    let r = c.in-Ok.ensures.last.part in
    grouped-asked _ r q c.in-Ok.last.grouped.program c.in-Ok.last.grouped.query c.in-Ok.ensures.last.groups (part-asked p q r c.in-Ok.ensures.last.here c.requires.asked)

pub solve_with_pads-ended-requires-clause-safe : goal.solve_with_pads-ended-requires-clause-safe
solve_with_pads-ended-requires-clause-safe g c κs within = grouped-safe _ c.in-Ok.ensures.last.part c.args.query.now c.in-Ok.last.grouped.program c.in-Ok.last.grouped.query c.in-Ok.ensures.last.groups

pub returns-clause-lines : goal.returns-clause-lines
returns-clause-lines g c =
    let p = c.args.program.now in
    let q = c.args.query.now in
    let r = c.in-Ok.ensures.last.part in
    let good : IsProgram p = subst IsProgram c.program.ensures c.as_slice-whole.ensures.kept in
    part-finishes c.args.bounds.budget c.args.bounds.answers p c.args.atoms.now q r good c.in-Ok.ensures.last.here _ _ c.solve_with_pads-ended.result
    (c.solve_with_pads-ended.ensures.lines r q c.in-Ok.ensures.last.formed c.question-asked.ensures.kept (grouped-read _ r q c.in-Ok.last.grouped.program c.in-Ok.last.grouped.query c.in-Ok.ensures.last.groups))

pub returns-clause-counted : goal.returns-clause-counted
returns-clause-counted g c =
    let p = c.args.program.now in
    let q = c.args.query.now in
    let r = c.in-Ok.ensures.last.part in
    let a = c.in-Ok.last.grouped.program in
    let b = c.in-Ok.last.grouped.query in
    let groups = c.in-Ok.ensures.last.groups in
    let good : IsProgram p = subst IsProgram c.program.ensures c.as_slice-whole.ensures.kept in
    part-counted c.args.bounds.budget c.args.bounds.answers p c.args.atoms.now q r good c.in-Ok.ensures.last.here c.args.bounds.kind a b groups _ _ c.solve_with_pads-ended.result
    (c.solve_with_pads-ended.ensures.charged r q c.in-Ok.ensures.last.formed c.question-asked.ensures.kept (grouped-read _ r q a b groups)) c.solve_with_pads-ended.ensures.exact c.solve_with_pads-ended.ensures.plain

pub returns-clause-kept : goal.returns-clause-kept
returns-clause-kept g c = (c.args.query.now, with_code c.in-Ok.last c.take_back.new.self c.take_back.ensures c.args.program.now c.args.bounds.kind c.args.query.now c.in-Ok.ensures.last)
