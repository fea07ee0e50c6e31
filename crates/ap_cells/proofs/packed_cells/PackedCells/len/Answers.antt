use Rattle.std.proofs.Common.{length, ap, arith}
use Rattle.ap_cells.specs.Packing.{Packed}
use Rattle.ap_cells.proofs.Packed.{raws-length}
use Rattle.ap_cells.proofs.packed_cells.PackedCells.len.Goals as goal

pub returns : goal.returns
returns c =
    let v = ap (λ (v : Packed). length v.items) c.self.view_is in
    omega (arith, raws-length c.self.inside.words.items c.self.inside.apart.items)
