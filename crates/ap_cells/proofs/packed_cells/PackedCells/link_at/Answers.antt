use Rattle.std.proofs.Common.{◌<◌, length, get_or, refl, ap, ◌∙◌, arith}
use Rattle.ap_cells.specs.Packing.{Packed}
use Rattle.ap_cells.proofs.Packed.{raws-length, raws-read, link-here}
use Rattle.ap_cells.proofs.packed_cells.PackedCells.link_at.Goals as goal

pub index-requires : goal.index-requires
index-requires c =
    let v = ap (λ (v : Packed). length v.items) c.self.view_is in
    omega (arith, raws-length c.self.inside.words.items c.self.inside.apart.items)

pub returns : goal.returns
returns c d =
    let ws = c.self.inside.words.items in
    let vs = c.self.inside.apart.items in
    let i = c.args.place in
    let v = ap (λ (v : Packed). length v.items) c.self.view_is in
    let h : i < length ws = omega (arith, raws-length ws vs) in
    let e = raws-read ws vs i c.index.result.now (get_or vs i 0) d h c.index.ensures refl ∙ ap (λ (v : Packed). get_or v.items i d) c.self.view_is in
    link-here c.link_in.result c.index.result.now (get_or c.args.self.now.items i d) (get_or vs i 0) e c.link_in.ensures
