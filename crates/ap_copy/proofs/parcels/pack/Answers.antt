use Rattle.std.proofs.Common.{◌≡◌, ◌-◌, ◌≤◌, ◌++◌, length, map, drop, ap, sym, ◌∙◌, subst, arith, length-append}
use Rattle.std.proofs.lemmas.List.{length-map}
use Rattle.ap_term.specs.Substitution.{instance_all}
use Rattle.ap_term.specs.UpToNames.{SameUpToNames}
use Rattle.ap_cells.specs.Trees.{trees, tree_at, span}
use Rattle.ap_copy.specs.Copies.{KnownAll, tuple_at, numbered}
use Rattle.ap_copy.proofs.Blocks.{laid, copies-known, AreCopies-length}
use Rattle.ap_copy.proofs.Tuples.{to_trees-map}
use Rattle.ap_copy.proofs.Names.{numbered-same}
use Rattle.ap_copy.proofs.parcels.pack.Goals as goal

pub settle-requires-clause-enough : goal.settle-requires-clause-enough
settle-requires-clause-enough c =
    let ts = trees c.args.cells.now.cells in
    let l = AreCopies-length c.args.packing.now.marks c.copy_terms.new.copying.block.items c.copy_terms.new.copying.loose.items (map (tree_at ts) c.args.roots.now) (c.in_ok-copy_terms.ensures.copies c.if-not-branch.false)
    ∙ length-map c.args.roots.now (tree_at ts) in
    omega arith

pub settle-requires-clause-few : goal.settle-requires-clause-few
settle-requires-clause-few c = (c.in_ok-copy_terms.ensures.block c.if-not-branch.false).few

pub returns-clause-packed : goal.returns-clause-packed
returns-clause-packed c q =
    let ts = trees c.args.cells.now.cells in
    let ks = c.args.packing.now.marks in
    let roots = c.args.roots.now in
    let cs = c.copy_terms.new.copying.loose.items in
    let block = c.copy_terms.new.copying.block.items in
    let copies = c.in_ok-copy_terms.ensures.copies c.if-not-branch.false in
    let l : length cs ≡ length roots = AreCopies-length ks block cs (map (tree_at ts) roots) copies ∙ length-map roots (tree_at ts) in
    let z : length cs - length roots ≡ 0 = omega arith in
    let e : c.settle.new.copying.block.items ≡ block ++ cs = c.in_ok-settle.ensures.block ∙ ap (λ n. block ++ drop n cs) z in
    let L = laid ks block cs (map (tree_at ts) roots) (c.in_ok-copy_terms.ensures.block c.if-not-branch.false) copies (subst (λ xs. length xs ≤ 4294967295) e c.in_ok-settle.ensures.few) in
    let p : length (block ++ cs) - length roots ≡ length block = omega (arith, length-append block cs) in
    let t = ap (λ xs. span (trees xs) (length xs - length roots) (length roots)) e
    ∙ ap (λ n. span (trees (block ++ cs)) n (length roots)) p
    ∙ ap (span (trees (block ++ cs)) (length block)) (sym l)
    ∙ L.terms
    ∙ ap (instance_all (numbered ks)) (to_trees-map ts roots) in
    let k = subst (KnownAll ks) (to_trees-map ts roots) (copies-known ks block cs (map (tree_at ts) roots) copies) in
    record {
      stand = rw e L.is_block.stand;
      below = rw e L.is_block.below;
      terms = rw e (omega (arith, length-append block cs));
      few = rw e L.is_block.few;
      same = subst (λ us. SameUpToNames us (tuple_at ts roots)) (sym t) (numbered-same ks (tuple_at ts roots) k);
    }
