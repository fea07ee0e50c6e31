use Rattle.ap_cells.specs.Store.{Keeps}
use Rattle.ap_control.proofs.Marks.{back-to}
use Rattle.ap_machine.proofs.control.run_or_undo.Goals as goal
use Rattle.ap_machine.proofs.Marked.{no-fewer}

pub undo_to-requires : goal.undo_to-requires
undo_to-requires c = c.run_to_stop.ensures.keeps.stays c.mark-mark.result.cells c.mark-mark.result.trail c.mark-mark.ensures.is_mark

pub undo_to-requires-in-Err : goal.undo_to-requires-in-Err
undo_to-requires-in-Err c = c.run_to_stop.ensures.keeps.stays c.mark-mark.result.cells c.mark-mark.result.trail c.mark-mark.ensures.is_mark

pub returns-in-Ok-Some-clause-longer : goal.returns-in-Ok-Some-clause-longer
returns-in-Ok-Some-clause-longer c = no-fewer c.args.cells.now c.run_to_stop.new.cells c.mark-mark.result.cells c.mark-mark.result.trail c.is_store.ensures.is_trail c.mark-mark.ensures.is_mark c.mark-mark.ensures.leads c.run_to_stop.ensures.keeps

pub returns-in-Ok-None-clause-keeps : goal.returns-in-Ok-None-clause-keeps
returns-in-Ok-None-clause-keeps c =
    (back-to c.args.cells.now c.run_to_stop.new.cells c.undo_to.new.self c.mark-mark.result.cells c.mark-mark.result.trail c.is_store.ensures.is_trail c.mark-mark.ensures.is_mark c.mark-mark.ensures.leads
    c.run_to_stop.ensures.keeps c.undo_to.ensures.cells c.undo_to.ensures.older c.undo_to.ensures.older_leads).0

pub returns-in-Ok-None-clause-longer : goal.returns-in-Ok-None-clause-longer
returns-in-Ok-None-clause-longer c =
    let keeps : Keeps c.args.cells.now c.undo_to.new.self =
    (back-to c.args.cells.now c.run_to_stop.new.cells c.undo_to.new.self c.mark-mark.result.cells c.mark-mark.result.trail c.is_store.ensures.is_trail c.mark-mark.ensures.is_mark c.mark-mark.ensures.leads
    c.run_to_stop.ensures.keeps c.undo_to.ensures.cells c.undo_to.ensures.older c.undo_to.ensures.older_leads).0
    in
    no-fewer c.args.cells.now c.undo_to.new.self c.mark-mark.result.cells c.mark-mark.result.trail c.is_store.ensures.is_trail c.mark-mark.ensures.is_mark c.mark-mark.ensures.leads keeps

pub returns-in-Err-clause-keeps : goal.returns-in-Err-clause-keeps
returns-in-Err-clause-keeps c =
    let u = c.undo_to-in-Err in
    (back-to c.args.cells.now c.run_to_stop.new.cells u.new.self c.mark-mark.result.cells c.mark-mark.result.trail c.is_store.ensures.is_trail c.mark-mark.ensures.is_mark c.mark-mark.ensures.leads
    c.run_to_stop.ensures.keeps u.ensures.cells u.ensures.older u.ensures.older_leads).0

pub returns-in-Err-clause-longer : goal.returns-in-Err-clause-longer
returns-in-Err-clause-longer c =
    let u = c.undo_to-in-Err in
    let keeps : Keeps c.args.cells.now c.undo_to-in-Err.new.self =
    (back-to c.args.cells.now c.run_to_stop.new.cells u.new.self c.mark-mark.result.cells c.mark-mark.result.trail c.is_store.ensures.is_trail c.mark-mark.ensures.is_mark c.mark-mark.ensures.leads
    c.run_to_stop.ensures.keeps u.ensures.cells u.ensures.older u.ensures.older_leads).0
    in
    no-fewer c.args.cells.now c.undo_to-in-Err.new.self c.mark-mark.result.cells c.mark-mark.result.trail c.is_store.ensures.is_trail c.mark-mark.ensures.is_mark c.mark-mark.ensures.leads keeps
