use Rattle.std.proofs.Common.{length}
use Rattle.ap_cells.specs.Raws.{raw_of}
use Rattle.ap_cells.specs.Trees.{trees, step}
use Rattle.ap_steps.specs.Moves.{held, constant_of}
use Rattle.ap_steps.proofs.Building.{constant-built}
use Rattle.ap_steps.proofs.NewCells.{push-keeps, push-apart, constant-apart}
use Rattle.ap_steps.proofs.arguments.build_cell.Goals as goal

pub returns-clause-built : goal.returns-clause-built
returns-clause-built c =
    λ xs ys.
    constant-built c.args.cells.now.cells c.push_new.new.cells.cells (raw_of c.args.cell) c.push_new.result c.push_new.ensures.place c.push_new.ensures.len c.push_new.ensures.becomes c.push_new.ensures.fits (constant_of c.args.cell)
    c.requires.constant (held xs) (held ys)

pub returns-clause-stays : goal.returns-clause-stays
returns-clause-stays c =
    let ts = trees c.args.cells.now.cells in
    push-keeps c.args.cells.now.cells c.push_new.new.cells.cells (step ts (length c.args.cells.now.cells) (raw_of c.args.cell)) c.push_new.ensures.trees

pub returns-clause-apart : goal.returns-clause-apart
returns-clause-apart c =
    let ts = trees c.args.cells.now.cells in
    let n = length c.args.cells.now.cells in
    push-apart c.args.cells.now.cells c.push_new.new.cells.cells (step ts n (raw_of c.args.cell)) c.push_new.ensures.trees c.push_new.ensures.len (λ x l. constant-apart ts x n c.args.cell c.requires.constant)
