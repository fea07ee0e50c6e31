use Rattle.ap_control.proofs.Marks.{back-to}
use Rattle.ap_machine.proofs.rejoin.meet_or_undo.Goals as goal

pub undo_to-requires : goal.undo_to-requires
undo_to-requires c = c.meet_all-met.ensures.keeps.stays c.mark-mark.result.cells c.mark-mark.result.trail c.mark-mark.ensures.is_mark

pub returns-then-not-matches-clause-keeps : goal.returns-then-not-matches-clause-keeps
returns-then-not-matches-clause-keeps c =
    (back-to c.args.cells.now c.meet_all-met.new.cells c.undo_to.new.self c.mark-mark.result.cells c.mark-mark.result.trail c.is_store.ensures.is_trail c.mark-mark.ensures.is_mark c.mark-mark.ensures.leads
    c.meet_all-met.ensures.keeps c.undo_to.ensures.cells c.undo_to.ensures.older c.undo_to.ensures.older_leads).0
