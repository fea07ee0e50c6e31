use Rattle.std.proofs.Common.{◌≡◌, ◌+◌, ◌-◌, ◌≤◌, ◌++◌, length, map, take, ap, sym, ◌∙◌, subst, arith}
use Rattle.std.proofs.Math.Seq.{take-append_seam, take-length}
use Rattle.ap_term.specs.Substitution.{instance, instance_all, shift}
use Rattle.ap_term.specs.UpToNames.{SameUpToNames}
use Rattle.ap_cells.specs.Trees.{trees, span}
use Rattle.ap_cells.proofs.Rounds.{trees-length}
use Rattle.ap_cells.proofs.Stores.{Keeps-trans}
use Rattle.ap_copy.proofs.Moves.{span-last, shift-same, Keeps-same, length-pushed}
use Rattle.ap_copy.proofs.parcels.copy_in.Goals as goal

pub returns-in_err-reserve-clause-before : goal.returns-in_err-reserve-clause-before
returns-in_err-reserve-clause-before c =
    let cs = c.args.cells.now.cells in
    let n = trees-length cs in
    rw c.reserve.ensures.cells (ap (λ m. take m (trees cs)) (sym n) ∙ take-length (trees cs))

pub overflow_sub-result : goal.overflow_sub-result
overflow_sub-result c =
    let T = subst (λ bs. trees c.push_block.new.cells.cells ≡ trees c.reserve.new.self.cells ++ map (instance (shift (length (trees c.reserve.new.self.cells)))) (trees bs)) c.deref.ensures.value c.push_block.ensures.trees in
    let n = trees-length c.push_block.new.cells.cells in
    let m = trees-length c.parcel.inside.cells.items in
    let v = length-pushed (trees c.reserve.new.self.cells) (trees c.parcel.inside.cells.items) (trees c.push_block.new.cells.cells) T in
    omega (arith, c.parcel.invariant.terms)

pub returns-clause-tuple : goal.returns-clause-tuple
returns-clause-tuple c =
    let T = subst (λ bs. trees c.push_block.new.cells.cells ≡ trees c.reserve.new.self.cells ++ map (instance (shift (length (trees c.reserve.new.self.cells)))) (trees bs)) c.deref.ensures.value c.push_block.ensures.trees in
    let cs = c.parcel.inside.cells.items in
    let k = c.parcel.inside.count in
    let ts = trees c.reserve.new.self.cells in
    let us = trees cs in
    let n = trees-length c.push_block.new.cells.cells in
    let m = trees-length cs in
    let v = length-pushed ts us (trees c.push_block.new.cells.cells) T in
    let p : c.len-2.result - k ≡ length ts + (length cs - k) = omega (arith, c.parcel.invariant.terms) in
    let h : (length cs - k) + k ≤ length us = omega (arith, c.parcel.invariant.terms) in
    ap (λ xs. span xs (c.len-2.result - k) k) T
    ∙ ap (λ i. span (ts ++ map (instance (shift (length ts))) us) i k) p
    ∙ span-last ts us (length cs - k) k h
    ∙ ap (instance_all (shift (length ts))) c.parcel.view_is
    ∙ ap (λ i. instance_all (shift i) c.args.parcel.now) (trees-length c.reserve.new.self.cells ∙ ap length c.reserve.ensures.cells)

pub returns-clause-names : goal.returns-clause-names
returns-clause-names c = subst (λ us. SameUpToNames us c.args.parcel.now) (sym (returns-clause-tuple c)) (shift-same (length c.args.cells.now.cells) c.args.parcel.now)

pub returns-clause-inside : goal.returns-clause-inside
returns-clause-inside c =
    let T = subst (λ bs. trees c.push_block.new.cells.cells ≡ trees c.reserve.new.self.cells ++ map (instance (shift (length (trees c.reserve.new.self.cells)))) (trees bs)) c.deref.ensures.value c.push_block.ensures.trees in
    let n = trees-length c.push_block.new.cells.cells in
    let m = trees-length c.parcel.inside.cells.items in
    let v = length-pushed (trees c.reserve.new.self.cells) (trees c.parcel.inside.cells.items) (trees c.push_block.new.cells.cells) T in
    omega (arith, c.parcel.invariant.terms)

pub returns-clause-before : goal.returns-clause-before
returns-clause-before c =
    let T = subst (λ bs. trees c.push_block.new.cells.cells ≡ trees c.reserve.new.self.cells ++ map (instance (shift (length (trees c.reserve.new.self.cells)))) (trees bs)) c.deref.ensures.value c.push_block.ensures.trees in
    let ts = trees c.reserve.new.self.cells in
    let l = trees-length c.reserve.new.self.cells ∙ ap length c.reserve.ensures.cells in
    ap (take (length c.args.cells.now.cells)) T
    ∙ ap (λ n. take n (ts ++ map (instance (shift (length ts))) (trees c.parcel.inside.cells.items))) (sym l)
    ∙ take-append_seam ts (map (instance (shift (length ts))) (trees c.parcel.inside.cells.items))
    ∙ ap trees c.reserve.ensures.cells

pub returns-clause-keeps : goal.returns-clause-keeps
returns-clause-keeps c = Keeps-trans c.args.cells.now c.reserve.new.self c.push_block.new.cells (Keeps-same c.args.cells.now c.reserve.new.self c.reserve.ensures.cells c.reserve.ensures.trail) c.push_block.ensures.keeps
