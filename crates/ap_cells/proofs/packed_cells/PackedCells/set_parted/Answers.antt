use Rattle.std.proofs.Common.{◌<◌, length, set, ap, ◌∙◌, arith, length-set}
use Rattle.ap_cells.specs.Packing.{Packed, raw_in}
use Rattle.ap_cells.proofs.Packed.{raws-length, raws-set}
use Rattle.ap_cells.proofs.packed_cells.PackedCells.set_parted.Goals as goal

pub index_mut-requires : goal.index_mut-requires
index_mut-requires c =
    let v = ap (λ (v : Packed). length v.items) c.self.view_is in
    omega (arith, raws-length c.self.inside.words.items c.self.inside.apart.items)

pub put_apart-requires : goal.put_apart-requires
put_apart-requires c =
    let v = ap (λ (v : Packed). length v.items) c.self.view_is in
    omega (arith, raws-length c.self.inside.words.items c.self.inside.apart.items, c.self.invariant.room)

pub invariant_of-self : goal.invariant_of-self
invariant_of-self c =
    let ws = c.self.inside.words.items in
    let v = ap (λ (v : Packed). length v.items) c.self.view_is in
    let l = raws-length ws c.self.inside.apart.items in
    let s = length-set ws c.args.place c.args.word in
    let shorter = c.put_apart.ensures.len (length ws) (omega arith) c.self.invariant.shorter in
    record { room = omega (arith, c.self.invariant.room); shorter = omega arith }

pub returns-clause-items : goal.returns-clause-items
returns-clause-items c =
    let w = c.args.word in
    let ws = c.self.inside.words.items in
    let vs = c.self.inside.apart.items in
    let v = ap (λ (v : Packed). length v.items) c.self.view_is in
    let h : c.args.place < length ws = omega (arith, raws-length ws vs) in
    raws-set ws vs c.put_apart.new.apart.items c.args.place w (raw_in w c.args.part) h (ap (raw_in w) c.put_apart.ensures.part) c.put_apart.ensures.others
    ∙ ap (λ (v : Packed). set v.items c.args.place (raw_in w c.args.part)) c.self.view_is
