use Rattle.std.proofs.Common.{◌+◌, ◌∙◌, drop, refl, get_or, ap, length-set, arith}
use Rattle.ap_cells.specs.declared.cells.Raw.TheVariants.{Free}
use Rattle.ap_cells.specs.Packing.{raws_in}
use Rattle.ap_cells.specs.Store.{freed}
use Rattle.ap_cells.proofs.Stores.{freed-more}
use Rattle.ap_cells.proofs.Packed.{raws-set}
use Rattle.ap_cells.proofs.packed_cells.free_words.Goals as goal

pub loop-place-preserved : goal.loop-place-preserved
loop-place-preserved c =
    let words = c.loop-place.words in
    let places = c.args.places.now in
    let i = c.loop-place.place-index in
    let place = get_or places i 0 in
    let h = c.requires i c.loop-place-test.true in (
      λ vs.
          ap (freed (drop (i + 1) places)) (raws-set words vs vs place 0 Free (omega (arith, h, c.loop-place.invariant.1)) refl (λ j n. refl))
          ∙ freed-more places (raws_in words vs) i c.loop-place-test.true ∙ c.loop-place.invariant.0 vs,
      length-set words place 0 ∙ c.loop-place.invariant.1,
    )
