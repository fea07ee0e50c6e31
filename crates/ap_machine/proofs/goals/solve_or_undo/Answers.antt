use Rattle.std.proofs.Common.{◌≤◌, length, ap, arith}
use Rattle.ap_control.proofs.Marks.{back-to}
use Rattle.ap_machine.proofs.Marked.{no-fewer}
use Rattle.ap_machine.proofs.goals.solve_or_undo.Goals as goal
use Rattle.ap_cells.proofs.Stores.{Keeps-trans}
use Rattle.ap_copy.proofs.Moves.{Keeps-same}

pub undo_to-requires : goal.undo_to-requires
undo_to-requires c = c.solve.ensures.keeps.stays c.mark-mark.result.cells c.mark-mark.result.trail c.mark-mark.ensures.is_mark

pub returns-in-Ok-clause-keeps : goal.returns-in-Ok-clause-keeps
returns-in-Ok-clause-keeps c =
    Keeps-trans c.args.cells.now c.reserve.new.self c.solve.new.cells
    (Keeps-same c.args.cells.now c.reserve.new.self c.reserve.ensures.cells c.reserve.ensures.trail) c.solve.ensures.keeps

pub returns-in-Ok-clause-longer : goal.returns-in-Ok-clause-longer
returns-in-Ok-clause-longer c =
    let l : length c.reserve.new.self.cells ≤ length c.solve.new.cells.cells =
    no-fewer c.reserve.new.self c.solve.new.cells c.mark-mark.result.cells c.mark-mark.result.trail c.is_store.ensures.is_trail c.mark-mark.ensures.is_mark c.mark-mark.ensures.leads c.solve.ensures.keeps
    in
    omega (arith, ap length c.reserve.ensures.cells)

pub returns-in-Err-clause-keeps : goal.returns-in-Err-clause-keeps
returns-in-Err-clause-keeps c =
    Keeps-trans c.args.cells.now c.reserve.new.self c.undo_to.new.self
    (Keeps-same c.args.cells.now c.reserve.new.self c.reserve.ensures.cells c.reserve.ensures.trail)
    (back-to c.reserve.new.self c.solve.new.cells c.undo_to.new.self c.mark-mark.result.cells c.mark-mark.result.trail c.is_store.ensures.is_trail c.mark-mark.ensures.is_mark c.mark-mark.ensures.leads c.solve.ensures.keeps c.undo_to.ensures.cells c.undo_to.ensures.older c.undo_to.ensures.older_leads).0
