use Rattle.std.proofs.Common.{◌≡◌, ◌<◌, ◌⊎◌, [], ◌∷◌, ◌++◌, length, get_or, refl, ap, ◌∙◌, arith, inl, inr}
use Rattle.ap_cells.specs.declared.cells.Raw.{Raw}
use Rattle.ap_cells.specs.declared.cells.Raw.TheVariants.{Same}
use Rattle.ap_cells.specs.Packing.{Packed, raw_in, raws_in}
use Rattle.ap_cells.specs.Trees.{link}
use Rattle.ap_cells.proofs.Packed.{raws-length, raws-push, raws-read}
use Rattle.ap_cells.proofs.packed_cells.PackedCells.push_linked.Goals as goal

pub index-requires : goal.index-requires
index-requires c =
    let v = ap (λ (v : Packed). length v.items) c.self.view_is in
    omega (arith, raws-length c.self.inside.words.items c.self.inside.apart.items)

pub push_reserved-requires : goal.push_reserved-requires
push_reserved-requires c =
    let v = ap (λ (v : Packed). length v.items) c.self.view_is in
    let r = ap (λ (v : Packed). v.room) c.self.view_is in
    omega (arith, raws-length c.self.inside.words.items c.self.inside.apart.items)

pub invariant_of-self : goal.invariant_of-self
invariant_of-self c =
    let v = ap (λ (v : Packed). length v.items) c.self.view_is in
    let r = ap (λ (v : Packed). v.room) c.self.view_is in
    let l = raws-length c.self.inside.words.items c.self.inside.apart.items in
    record { room = omega arith; shorter = omega (arith, c.self.invariant.shorter) }

pub returns-clause-items : goal.returns-clause-items
returns-clause-items c =
    let ws = c.self.inside.words.items in
    let vs = c.self.inside.apart.items in
    let v = ap (λ (v : Packed). length v.items) c.self.view_is in
    let h : c.args.end < length ws = omega (arith, raws-length ws vs) in
    let a = get_or vs (length ws) 0 in
    let w = c.link_word-word.result in
    let pushed = ap (λ xs. raws_in xs vs) c.push_reserved.ensures.items ∙ raws-push ws vs vs w (raw_in w a) refl (λ j n. refl) in
    let at : (d : Raw) → raw_in c.index.result.now (get_or vs c.args.end 0) ≡ get_or c.args.self.now.items c.args.end d =
    λ d. raws-read ws vs c.args.end c.index.result.now (get_or vs c.args.end 0) d h c.index.ensures refl ∙ ap (λ (v : Packed). get_or v.items c.args.end d) c.self.view_is in
    let cases : (d : Raw) → (raw_in w a ≡ Same c.args.end) ⊎ (raw_in w a ≡ link c.args.end (get_or c.args.self.now.items c.args.end d)) =
    λ d. elim (c.link_word-word.ensures a) [
      | inl e ↦ inl e
      | inr f ↦ inr (f (get_or vs c.args.end 0) ∙ ap (link c.args.end) (at d))
    ] in
    (raw_in w a, (pushed ∙ ap (λ (v : Packed). v.items ++ raw_in w a ∷ []) c.self.view_is, cases))
