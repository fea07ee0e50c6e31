use Rattle.ap_cell_tests.proofs.calls.may_be_unified.Goals as goal

pub undo_to-requires : goal.undo_to-requires
undo_to-requires c = c.unify-found.ensures.keeps.stays c.mark-mark.result.cells c.mark-mark.result.trail c.mark-mark.ensures.is_mark
