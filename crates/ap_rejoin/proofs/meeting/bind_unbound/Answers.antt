use Rattle.std.proofs.Common.{◌≡◌, ℕ, ◌+◌, ◌<◌, ◌≤◌, length, get_or, refl, sym, ◌∙◌, subst, arith}
use Rattle.ap_term.specs.Vars.{Local}
use Rattle.ap_cells.specs.Trees.{tree_at, trees}
use Rattle.ap_cells.proofs.Stores.{Keeps-refl, Keeps-trans}
use Rattle.ap_rejoin.specs.Meets.{Narrows}
use Rattle.ap_rejoin.proofs.Fitting.{Each-at}
use Rattle.ap_rejoin.proofs.Narrowing.{narrows-same, narrows-more}
use Rattle.ap_rejoin.proofs.meeting.bind_unbound.Goals as goal

pub loop-place-init : goal.loop-place-init
loop-place-init c = record {
  at = omega arith;
  narrows = narrows-same c.args.cells.now.cells (λ k. (j : ℕ) → j < length c.args.places.now → k (get_or c.args.places.now j 0) ≡ k (c.args.first + j));
  roots = λ j l. refl;
  keeps = Keeps-refl c.args.cells.now;
}

pub bind_new-requires-clause-inside : goal.bind_new-requires-clause-inside
bind_new-requires-clause-inside c =
    let e = Each-at (length c.args.cells.now.cells) c.args.places.now c.requires.inside c.loop-place.place-index c.loop-place-test.true in
    (omega (arith, e, c.loop-place.invariant.narrows.len), omega (arith, c.loop-place.invariant.at, c.loop-place-test.true, c.requires.behind, c.loop-place.invariant.narrows.len))

pub bind_new-requires-clause-fresh : goal.bind_new-requires-clause-fresh
bind_new-requires-clause-fresh c =
    let i = c.loop-place.place-index in
    subst (λ n. Local (λ x. c.args.base ≤ x) (tree_at (trees c.loop-place.cells.cells) n)) (sym c.loop-place.invariant.at)
    (subst (Local (λ x. c.args.base ≤ x)) (sym (c.loop-place.invariant.roots i c.loop-place-test.true)) (c.requires.fresh i c.loop-place-test.true))

pub loop-place-preserved : goal.loop-place-preserved
loop-place-preserved c =
    let old = c.args.cells.now.cells in
    let mid = c.loop-place.cells.cells in
    let new = c.bind_new.new.cells.cells in
    let rs = c.args.places.now in
    let i = c.loop-place.place-index in
    let v = c.loop-place.invariant in
    record {
      at = omega (arith, v.at);
      narrows = narrows-more old mid new rs c.args.first i c.loop-place-test.true v.narrows (subst (λ n. Narrows mid new (λ k. k (get_or rs i 0) ≡ k n)) v.at c.bind_new.ensures.narrows);
      roots = λ j l.
          c.bind_new.ensures.same (c.args.first + j) (omega (arith, v.narrows.len, c.requires.behind)) (subst (Local (λ x. c.args.base ≤ x)) (sym (v.roots j l)) (c.requires.fresh j l)) ∙ v.roots j l;
      keeps = Keeps-trans c.args.cells.now c.loop-place.cells c.bind_new.new.cells v.keeps c.bind_new.ensures.keeps;
    }
