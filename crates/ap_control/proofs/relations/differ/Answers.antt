use Rattle.std.proofs.Common.{ap}
use Rattle.ap_term.specs.Builtins.{succeeds_if}
use Rattle.ap_control.proofs.Marks.{back-to}
use Rattle.ap_control.proofs.Compared.{not-unified}
use Rattle.ap_control.proofs.relations.differ.Goals as goal

pub undo_to-requires : goal.undo_to-requires
undo_to-requires c = c.equate-outcome.ensures.keeps.stays c.mark-mark.result.cells c.mark-mark.result.trail c.mark-mark.ensures.is_mark

pub returns-in_err-same-clause-keeps : goal.returns-in_err-same-clause-keeps
returns-in_err-same-clause-keeps c = (back-to c.args.cells.now c.equate-outcome.new.cells c.undo_to.new.self c.mark-mark.result.cells c.mark-mark.result.trail c.is_store.ensures.is_trail c.mark-mark.ensures.is_mark c.mark-mark.ensures.leads c.equate-outcome.ensures.keeps c.undo_to.ensures.cells c.undo_to.ensures.older c.undo_to.ensures.older_leads).0

pub returns-clause-tested : goal.returns-clause-tested
returns-clause-tested c = (
  (back-to c.args.cells.now c.equate-outcome.new.cells c.undo_to.new.self c.mark-mark.result.cells c.mark-mark.result.trail c.is_store.ensures.is_trail c.mark-mark.ensures.is_mark c.mark-mark.ensures.leads c.equate-outcome.ensures.keeps c.undo_to.ensures.cells c.undo_to.ensures.older c.undo_to.ensures.older_leads).1,
  ap succeeds_if (not-unified c.args.cells.now.cells c.equate-outcome.new.cells.cells c.args.a c.args.b c.requires.0 c.requires.1 c.in_ok-same.same c.in_ok-same.ensures.answered),
)

pub returns-clause-keeps : goal.returns-clause-keeps
returns-clause-keeps c = (back-to c.args.cells.now c.equate-outcome.new.cells c.undo_to.new.self c.mark-mark.result.cells c.mark-mark.result.trail c.is_store.ensures.is_trail c.mark-mark.ensures.is_mark c.mark-mark.ensures.leads c.equate-outcome.ensures.keeps c.undo_to.ensures.cells c.undo_to.ensures.older c.undo_to.ensures.older_leads).0
