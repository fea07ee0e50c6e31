use Rattle.std.proofs.Common.{arith}
use Rattle.ap_cells.proofs.Rounds.{trees-length}
use Rattle.ap_copy.proofs.copying.copy_term.Goals as goal

pub copy_begun-requires-clause-inside : goal.copy_begun-requires-clause-inside
copy_begun-requires-clause-inside c =
    let b = c.in-Term.ensures.begun c.args.copying.now.block.items c.requires.block c.requires.memory in
    let i = b.1 in
    let z = trees-length c.args.cells.now.cells in
    omega arith
