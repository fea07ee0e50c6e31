use Rattle.std.proofs.Common.{[], ◌∷◌, ◌++◌, length, get_or, refl, ap, ◌∙◌, arith}
use Rattle.ap_cells.specs.declared.cells.Raw.TheVariants.{Atom as AtomRaw}
use Rattle.ap_cells.specs.Packing.{Packed}
use Rattle.ap_cells.proofs.Packed.{raws-length, raws-push}
use Rattle.ap_cells.proofs.packed_cells.PackedCells.push_atom.Goals as goal

pub push_reserved-requires : goal.push_reserved-requires
push_reserved-requires c =
    let v = ap (λ (v : Packed). length v.items) c.self.view_is in
    let r = ap (λ (v : Packed). v.room) c.self.view_is in
    omega (arith, raws-length c.self.inside.words.items c.self.inside.apart.items)

pub invariant_of-self : goal.invariant_of-self
invariant_of-self c =
    let v = ap (λ (v : Packed). length v.items) c.self.view_is in
    let r = ap (λ (v : Packed). v.room) c.self.view_is in
    let l = raws-length c.self.inside.words.items c.self.inside.apart.items in
    record { room = omega arith; shorter = omega (arith, c.self.invariant.shorter) }

pub returns-clause-items : goal.returns-clause-items
returns-clause-items c =
    let ws = c.self.inside.words.items in
    let vs = c.self.inside.apart.items in
    rw c.push_reserved.ensures.items (raws-push ws vs vs c.atom_word.result (AtomRaw c.args.name) (c.atom_word.ensures (get_or vs (length ws) 0)) (λ j n. refl)) ∙ ap (λ (v : Packed). v.items ++ (AtomRaw c.args.name) ∷ []) c.self.view_is
