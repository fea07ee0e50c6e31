use Rattle.ap_control.proofs.Marks.{back-to}
use Rattle.ap_machine.proofs.group.fork_or_undo.Goals as goal
use Rattle.ap_machine.proofs.Marked.{no-fewer}

pub returns-in-Ok-clause-longer : goal.returns-in-Ok-clause-longer
returns-in-Ok-clause-longer c = no-fewer c.args.cells.now c.gather.new.cells c.mark-mark.result.cells c.mark-mark.result.trail c.is_store.ensures.is_trail c.mark-mark.ensures.is_mark c.mark-mark.ensures.leads c.gather.ensures.keeps

pub undo_to-requires : goal.undo_to-requires
undo_to-requires c = c.gather.ensures.keeps.stays c.mark-mark.result.cells c.mark-mark.result.trail c.mark-mark.ensures.is_mark

pub undo_to-requires-in-Ok-None : goal.undo_to-requires-in-Ok-None
undo_to-requires-in-Ok-None c = c.gather.ensures.keeps.stays c.mark-mark.result.cells c.mark-mark.result.trail c.mark-mark.ensures.is_mark

pub undo_to-requires-in-Err : goal.undo_to-requires-in-Err
undo_to-requires-in-Err c = c.gather.ensures.keeps.stays c.mark-mark.result.cells c.mark-mark.result.trail c.mark-mark.ensures.is_mark

pub returns-in-Ok-Some-Pushed-clause-keeps : goal.returns-in-Ok-Some-Pushed-clause-keeps
returns-in-Ok-Some-Pushed-clause-keeps c = (back-to c.args.cells.now c.gather.new.cells c.undo_to.new.self c.mark-mark.result.cells c.mark-mark.result.trail c.is_store.ensures.is_trail c.mark-mark.ensures.is_mark c.mark-mark.ensures.leads c.gather.ensures.keeps c.undo_to.ensures.cells c.undo_to.ensures.older c.undo_to.ensures.older_leads).0

pub returns-in-Ok-None-clause-keeps : goal.returns-in-Ok-None-clause-keeps
returns-in-Ok-None-clause-keeps c = (back-to c.args.cells.now c.gather.new.cells c.undo_to-in-Ok-None.new.self c.mark-mark.result.cells c.mark-mark.result.trail c.is_store.ensures.is_trail c.mark-mark.ensures.is_mark c.mark-mark.ensures.leads c.gather.ensures.keeps c.undo_to-in-Ok-None.ensures.cells c.undo_to-in-Ok-None.ensures.older c.undo_to-in-Ok-None.ensures.older_leads).0

pub returns-clause-keeps : goal.returns-clause-keeps
returns-clause-keeps c = (back-to c.args.cells.now c.gather.new.cells c.undo_to-in-Err.new.self c.mark-mark.result.cells c.mark-mark.result.trail c.is_store.ensures.is_trail c.mark-mark.ensures.is_mark c.mark-mark.ensures.leads c.gather.ensures.keeps c.undo_to-in-Err.ensures.cells c.undo_to-in-Err.ensures.older c.undo_to-in-Err.ensures.older_leads).0
