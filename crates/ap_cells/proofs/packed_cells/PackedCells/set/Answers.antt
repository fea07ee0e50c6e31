use Rattle.std.proofs.Common.{◌<◌, length, get_or, set, refl, ap, ◌∙◌, arith}
use Rattle.ap_cells.specs.Packing.{Packed}
use Rattle.ap_cells.proofs.Packed.{raws-length, raws-set}
use Rattle.ap_cells.proofs.packed_cells.PackedCells.set.Goals as goal

pub index_mut-requires : goal.index_mut-requires
index_mut-requires c =
    let v = ap (λ (v : Packed). length v.items) c.self.view_is in
    omega (arith, raws-length c.self.inside.words.items c.self.inside.apart.items)

pub returns-in-Some-clause-items : goal.returns-in-Some-clause-items
returns-in-Some-clause-items c =
    let ws = c.self.inside.words.items in
    let vs = c.self.inside.apart.items in
    let v = ap (λ (v : Packed). length v.items) c.self.view_is in
    let h : c.args.place < length ws = omega (arith, raws-length ws vs) in
    raws-set ws vs vs c.args.place c.in-Some.word c.args.cell h (c.in-Some.ensures (get_or vs c.args.place 0)) (λ j n. refl)
    ∙ ap (λ (v : Packed). set v.items c.args.place c.args.cell) c.self.view_is
