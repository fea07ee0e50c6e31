use Rattle.std.proofs.Common.{IfOk, List, ℕ, ◌≡◌, ◌++◌, map, ap, sym, ◌∙◌, subst, append-nil}
use Rattle.std.proofs.lemmas.List.{at_drop_all}
use Rattle.ap_sharing.specs.Sets.{sets_of}
use Rattle.ap_patterns.specs.Entering.{with_own, beside}
use Rattle.ap_patterns.proofs.OwnSets.{own_sets-first}
use Rattle.ap_patterns.proofs.clauses.sets_beside.Goals as goal

pub returns : goal.returns
returns c =
    let n = c.args.n in
    let move = map (beside n c.args.k) in
    let all = c.loop-s.all.items in
    let places = c.as_slice-places.result.now in
    let whole = sym (ap (λ z. all ++ z) (at_drop_all move places c.loop-s.s-index c.loop-s-test.false) ∙ append-nil all) ∙ c.loop-s.invariant in
    let e : sets_of all ≡ with_own n (sets_of (move c.args.sets.now)) = ap sets_of whole ∙ own_sets-first n (move places) ∙ ap (λ ss. with_own n (sets_of (move ss))) c.as_slice-places.ensures in
    subst (λ (ss : List ℕ). IfOk c.of.result (λ r. r ≡ ss)) e c.of.ensures
