use Rattle.std.proofs.Common.{refl, arith}
use Rattle.ap_cells.proofs.Rounds.{trees-length}
use Rattle.ap_copy.proofs.copying.begin.Goals as goal

pub returns-in_default-clause-begun : goal.returns-in_default-clause-begun
returns-in_default-clause-begun c block b m =
    let z = trees-length c.args.cells.now.cells in
    (c.in-Node.ensures.tree, omega (arith, c.in-Node.ensures.inside), refl)
