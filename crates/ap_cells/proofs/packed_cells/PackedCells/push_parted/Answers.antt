use Rattle.std.proofs.Common.{◌≡◌, [], ◌∷◌, ◌++◌, length, get_or, sym, ap, ◌∙◌, arith}
use Rattle.ap_cells.specs.Packing.{Packed, raw_in}
use Rattle.ap_cells.proofs.Packed.{raws-length, raws-push}
use Rattle.ap_cells.proofs.packed_cells.PackedCells.push_parted.Goals as goal

pub push_reserved-requires : goal.push_reserved-requires
push_reserved-requires c =
    let v = ap (λ (v : Packed). length v.items) c.self.view_is in
    let r = ap (λ (v : Packed). v.room) c.self.view_is in
    omega (arith, raws-length c.self.inside.words.items c.self.inside.apart.items)

pub put_apart-requires : goal.put_apart-requires
put_apart-requires c =
    let v = ap (λ (v : Packed). length v.items) c.self.view_is in
    let r = ap (λ (v : Packed). v.room) c.self.view_is in
    omega (arith, raws-length c.self.inside.words.items c.self.inside.apart.items)

pub invariant_of-self : goal.invariant_of-self
invariant_of-self c =
    let v = ap (λ (v : Packed). length v.items) c.self.view_is in
    let r = ap (λ (v : Packed). v.room) c.self.view_is in
    let l = raws-length c.self.inside.words.items c.self.inside.apart.items in
    let shorter = c.put_apart.ensures.len (length c.push_reserved.new.self.items) (omega arith) (omega (arith, c.self.invariant.shorter)) in
    record { room = omega arith; shorter = shorter }

pub returns-clause-items : goal.returns-clause-items
returns-clause-items c =
    let w = c.args.word in
    let ws = c.self.inside.words.items in
    let i : c.len-place.result ≡ length ws = omega arith in
    rw c.push_reserved.ensures.items
    (raws-push ws c.self.inside.apart.items c.put_apart.new.apart.items w (raw_in w c.args.part)
    (ap (λ k. raw_in w (get_or c.put_apart.new.apart.items k 0)) (sym i) ∙ ap (raw_in w) c.put_apart.ensures.part)
    (λ j n. c.put_apart.ensures.others j (λ e. n (e ∙ i))))
    ∙ ap (λ (v : Packed). v.items ++ raw_in w c.args.part ∷ []) c.self.view_is
