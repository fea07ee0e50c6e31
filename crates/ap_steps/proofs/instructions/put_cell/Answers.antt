use Rattle.std.proofs.Common.{length}
use Rattle.ap_cells.specs.Raws.{raw_of}
use Rattle.ap_steps.specs.Moves.{constant_of}
use Rattle.ap_steps.proofs.StepsTaken.{becomes_constant, put_constant_done}
use Rattle.ap_steps.proofs.instructions.put_cell.Goals as goal

pub returns-clause-taken : goal.returns-clause-taken
returns-clause-taken c =
    let old = c.args.cells.now.cells in
    let new = c.push_new-place.new.cells.cells in
    let p = c.push_new-place.result in
    λ ys hx hy.
    put_constant_done old new c.args.x.now c.put.new.registers ys hx hy (constant_of c.args.cell) c.args.a p
    (becomes_constant old new (constant_of c.args.cell) p (length old) (raw_of c.args.cell) c.push_new-place.ensures.place c.requires.constant c.push_new-place.ensures.becomes) c.put.ensures.held
