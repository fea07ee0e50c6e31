use Rattle.std.proofs.Common.{◌≡◌, ◌-◌, length, ap, sym, subst}
use Rattle.ap_term.specs.UpToNames.{SameUpToNames}
use Rattle.ap_cells.specs.Trees.{trees, span}
use Rattle.ap_copy.specs.Copies.{tuple_at}
use Rattle.ap_copy.proofs.parcels.copy_out.Goals as goal

pub invariant_of-result : goal.invariant_of-result
invariant_of-result c =
    let p = c.in_ok-pack_known.ensures.packed in
    let e : c.replace.result.items ≡ c.pack_known.new.packing.copying.block.items = ap (λ v. v.items) c.replace.ensures.value in
    record { stand = rw e p.stand; below = rw e p.below; terms = rw e p.terms; few = rw e p.few }

pub returns : goal.returns
returns c =
    let roots = c.args.roots.now in
    let p = c.in_ok-pack_known.ensures.packed in
    let e : c.replace.result.items ≡ c.pack_known.new.packing.copying.block.items = ap (λ v. v.items) c.replace.ensures.value in
    subst (λ us. SameUpToNames us (tuple_at (trees c.args.cells.now.cells) roots)) (sym (ap (λ xs. span (trees xs) (length xs - length roots) (length roots)) e)) p.same
