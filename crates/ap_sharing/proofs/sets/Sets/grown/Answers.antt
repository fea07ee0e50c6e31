use Rattle.std.proofs.Common.{IfOk, List, ℕ, ◌≡◌, ◌++◌, ◌∷◌, [], ap, ap₂, sym, ◌∙◌, subst, arith, append-nil, append_assoc}
use Rattle.std.proofs.lemmas.List.{at_drop_all}
use Rattle.ap_sharing.specs.Sets.{IsAscending, sets_of, with_each, grown}
use Rattle.ap_sharing.proofs.Made.{join-sets_of}
use Rattle.ap_sharing.proofs.Turns.{with_each-turn}
use Rattle.ap_sharing.proofs.sets.Sets.grown.Goals as goal

pub loop-t-preserved : goal.loop-t-preserved
loop-t-preserved c =
    with_each-turn c.args.s c.as_slice-t-items.result.now c.loop-t.t-index c.t-item.result c.loop-t.all.items c.push-in-loop-t.new.self.items (c.push.new.self.items ++ with_each c.args.s c.args.self.now)
    (omega arith) c.t-item.is (c.in_ok-push-2.ensures.items ∙ ap (λ z. c.loop-t.all.items ++ z ∷ []) c.union.ensures) c.loop-t.invariant

pub returns : goal.returns
returns c =
    let s = c.args.s in
    let sets = c.args.self.now in
    let all = c.loop-t.all.items in
    let more = with_each s sets in
    let begun = c.in_ok-extend_from_slice.ensures.items ∙ ap₂ (λ (xs ys : List ℕ). xs ++ ys) c.in_ok-all.ensures.items (c.deref.ensures.value ∙ c.self.view_is) in
    let whole = sym (ap (λ z. all ++ z) (at_drop_all (with_each s) c.as_slice-t-items.result.now c.loop-t.t-index c.loop-t-test.false) ∙ append-nil all) ∙ c.loop-t.invariant
    ∙ ap (λ z. z ++ more) (c.in_ok-push.ensures.items ∙ ap (λ z. z ++ s ∷ []) begun) ∙ append_assoc sets (s ∷ []) more in
    let e : sets_of all ≡ grown sets s = ap sets_of whole ∙ join-sets_of sets (s ∷ more) (subst IsAscending c.self.view_is c.self.invariant) in
    subst (λ (ss : List ℕ). IfOk c.of.result (λ r. r ≡ ss)) e c.of.ensures
