use Rattle.std.proofs.Common.{◌<◌, length, get_or, refl, ap, ◌∙◌, arith}
use Rattle.ap_cells.specs.Packing.{Packed, raw_in}
use Rattle.ap_cells.proofs.Packed.{raws-length, raws-read}
use Rattle.ap_cells.proofs.packed_cells.PackedCells.at.Goals as goal

pub index-requires : goal.index-requires
index-requires c =
    let v = ap (λ (v : Packed). length v.items) c.self.view_is in
    omega (arith, raws-length c.self.inside.words.items c.self.inside.apart.items)

pub returns : goal.returns
returns c d =
    let ws = c.self.inside.words.items in
    let vs = c.self.inside.apart.items in
    let i = c.args.place in
    let v = ap (λ (v : Packed). length v.items) c.self.view_is in
    let h : i < length ws = omega (arith, raws-length ws vs) in
    c.raw_by.ensures ∙ ap (λ xs. raw_in c.index.result.now (get_or xs i 0)) c.deref.ensures.value
    ∙ raws-read ws vs i c.index.result.now (get_or vs i 0) d h c.index.ensures refl ∙ ap (λ (v : Packed). get_or v.items i d) c.self.view_is
