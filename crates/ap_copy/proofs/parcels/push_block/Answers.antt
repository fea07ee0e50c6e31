use Rattle.std.proofs.Common.{◌≡◌, ◌+◌, ◌++◌, ◌∷◌, [], length, map, take, ap, sym, ◌∙◌, subst, arith}
use Rattle.std.proofs.lemmas.List.{length_push}
use Rattle.ap_term.specs.Substitution.{instance, shift}
use Rattle.ap_cells.specs.Raws.{raw_of}
use Rattle.ap_cells.specs.Trees.{trees, step, Within}
use Rattle.ap_cells.proofs.Rounds.{trees-length}
use Rattle.ap_cells.proofs.Stores.{Keeps-trans}
use Rattle.ap_copy.specs.Parcels.{raw_moved}
use Rattle.ap_copy.proofs.Moves.{moved-more, Within-moved}
use Rattle.ap_copy.proofs.parcels.push_block.Goals as goal

pub push-requires-clause-within : goal.push-requires-clause-within
push-requires-clause-within c =
    let n : length c.loop-raw.cells.cells ≡ c.len-base.result + c.loop-raw.raw-index = omega arith in
    let w : Within c.loop-raw.raw-index c.loop-raw.raw-index c.raw-item.result = subst (Within c.loop-raw.raw-index c.loop-raw.raw-index) (sym c.raw-item.is) (c.requires.below c.loop-raw.raw-index c.raw-item.result c.loop-raw-test.true) in
    subst (λ m. Within m m (raw_of c.moved.result)) (sym n)
    (subst (Within (c.len-base.result + c.loop-raw.raw-index) (c.len-base.result + c.loop-raw.raw-index)) (sym c.moved.ensures) (Within-moved c.len-base.result c.loop-raw.raw-index c.raw-item.result w))

pub loop-raw-preserved : goal.loop-raw-preserved
loop-raw-preserved c =
    let ts = trees c.args.cells.now.cells in
    let us = trees c.args.block.now in
    let i = c.loop-raw.raw-index in
    let t = trees-length c.args.cells.now.cells in
    let n : length c.loop-raw.cells.cells ≡ length ts + i = omega (arith, c.loop-raw.invariant.len) in
    let b : c.len-base.result ≡ length ts = omega arith in
    let ws = ts ++ map (instance (shift (length ts))) (take i us) in
    let l = ap length c.push.ensures.cells ∙ length_push c.loop-raw.cells.cells (raw_of c.moved.result) in
    record {
      trees =
          c.push.ensures.trees
          ∙ ap (λ xs. xs ++ step xs (length c.loop-raw.cells.cells) (raw_of c.moved.result) ∷ []) c.loop-raw.invariant.trees
          ∙ ap (λ m. ws ++ step ws m (raw_of c.moved.result) ∷ []) n
          ∙ ap (λ r. ws ++ step ws (length ts + i) r ∷ []) (c.moved.ensures ∙ ap (λ m. raw_moved m c.raw-item.result) b)
          ∙ moved-more ts us c.args.block.now i c.raw-item.result c.requires.stand c.requires.below c.loop-raw-test.true c.raw-item.is;
      len = omega (arith, c.loop-raw.invariant.len);
      trail = c.push.ensures.trail ∙ c.loop-raw.invariant.trail;
      spare = omega (arith, c.push.ensures.spare, c.loop-raw.invariant.spare);
      keeps = Keeps-trans c.args.cells.now c.loop-raw.cells c.push.new.self c.loop-raw.invariant.keeps c.push.ensures.keeps;
    }
