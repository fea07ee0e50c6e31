use Rattle.std.proofs.Common.{arith}
use Rattle.ap_cells.proofs.Packed.{raws-length}
use Rattle.ap_cells.proofs.packed_cells.PackedCells.reserve.Goals as goal

pub returns-clause-ok : goal.returns-clause-ok
returns-clause-ok c =
    let l = raws-length c.reserve.new.self.items c.reserve-2.new.self.items in
    let words = c.in_ok-reserve.ensures.ok in
    let apart = c.in_ok-reserve-2.ensures.ok in
    omega arith
