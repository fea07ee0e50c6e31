use Rattle.std.proofs.Common.{◌≡◌, ◌+◌, length, get_or, refl, ◌∙◌, subst, arith}
use Rattle.ap_cells.proofs.Stores.{Keeps-refl, Keeps-trans}
use Rattle.ap_match.specs.Fits.{Answered}
use Rattle.ap_rejoin.proofs.Fitting.{none-equal, one-more, not-more, all-equal}
use Rattle.ap_rejoin.proofs.meeting.equate_all.Goals as goal

pub loop-place-init : goal.loop-place-init
loop-place-init c = record {
  at = omega arith;
  becomes = none-equal c.args.cells.now.cells c.args.places.now c.args.first;
  len = refl;
  keeps = Keeps-refl c.args.cells.now;
}

pub returns-in_err-equate-clause-keeps : goal.returns-in_err-equate-clause-keeps
returns-in_err-equate-clause-keeps c = Keeps-trans c.args.cells.now c.loop-place.cells c.equate.new.cells c.loop-place.invariant.keeps c.equate.ensures.keeps

pub returns-then-not-branch-clause-answered : goal.returns-then-not-branch-clause-answered
returns-then-not-branch-clause-answered c =
    let old = c.args.cells.now.cells in
    let mid = c.loop-place.cells.cells in
    let new = c.equate.new.cells.cells in
    let rs = c.args.places.now in
    let i = c.loop-place.place-index in
    let a : Answered mid new (λ k. k (get_or rs i 0) ≡ k (c.args.first + i)) c.in_ok-equate.field-0 =
    subst (λ n. Answered mid new (λ k. k (get_or rs i 0) ≡ k n) c.in_ok-equate.field-0) c.loop-place.invariant.at c.in_ok-equate.ensures.answered in
    not-more old mid new rs c.args.first i c.requires.inside c.requires.behind c.loop-place-test.true c.loop-place.invariant.becomes
    (subst (Answered mid new (λ k. k (get_or rs i 0) ≡ k (c.args.first + i))) c.if-not-branch.true a)

pub returns-then-not-branch-clause-keeps : goal.returns-then-not-branch-clause-keeps
returns-then-not-branch-clause-keeps c = Keeps-trans c.args.cells.now c.loop-place.cells c.equate.new.cells c.loop-place.invariant.keeps c.equate.ensures.keeps

pub loop-place-preserved : goal.loop-place-preserved
loop-place-preserved c =
    let old = c.args.cells.now.cells in
    let mid = c.loop-place.cells.cells in
    let new = c.equate.new.cells.cells in
    let rs = c.args.places.now in
    let i = c.loop-place.place-index in
    let a : Answered mid new (λ k. k (get_or rs i 0) ≡ k (c.args.first + i)) c.in_ok-equate.field-0 =
    subst (λ n. Answered mid new (λ k. k (get_or rs i 0) ≡ k n) c.in_ok-equate.field-0) c.loop-place.invariant.at c.in_ok-equate.ensures.answered in
    record {
      at = omega (arith, c.loop-place.invariant.at);
      becomes =
          one-more old mid new rs c.args.first i c.requires.inside c.requires.behind c.loop-place-test.true c.loop-place.invariant.becomes
          (subst (Answered mid new (λ k. k (get_or rs i 0) ≡ k (c.args.first + i))) c.if-not-branch.false a);
      len = c.equate.ensures.len ∙ c.loop-place.invariant.len;
      keeps = Keeps-trans c.args.cells.now c.loop-place.cells c.equate.new.cells c.loop-place.invariant.keeps c.equate.ensures.keeps;
    }

pub returns-clause-answered : goal.returns-clause-answered
returns-clause-answered c =
    let e : c.loop-place.place-index ≡ length c.args.places.now = omega (arith, c.loop-place-test.false, c.loop-place.auto.place-index-end) in
    all-equal c.args.cells.now.cells c.loop-place.cells.cells c.args.places.now c.args.first c.loop-place.place-index e c.loop-place.invariant.becomes
