use Rattle.std.proofs.Common.{IfOk, List, ℕ, ◌≡◌, ◌++◌, ◌∷◌, [], ap, sym, ◌∙◌, subst, arith, append-nil}
use Rattle.std.proofs.lemmas.List.{at_drop_all}
use Rattle.ap_sharing.specs.Sets.{sets_of}
use Rattle.ap_sharing.proofs.Ones.{with_one, sets_of-with_one, joined-turn, dropped-turn, kept-turn}
use Rattle.ap_sharing.proofs.sets.Sets.with_one.Goals as goal
use Rattle.ap_sharing.proofs.sets.Sets.with_one.Goals.{then-intersects+in_ok-push, else-intersects+then-not-intersects+in_ok-push-2, else-intersects+else-not-intersects}

pub loop-s-preserved : goal.loop-s-preserved
loop-s-preserved c =
    let a = c.args.a in
    let one = c.args.one in
    let sides = c.union-sides.result in
    let items = c.as_slice-s-items.result.now in
    let i = c.loop-s.s-index in
    let s = c.s-item.result in
    let before = c.loop-s.sets.items in
    let after = c.if-intersects.sets.items in
    let whole = with_one a sides one c.args.self.now in
    elim c.if-intersects.branch [
      | then-intersects+in_ok-push w ↦
          joined-turn a sides one items i s (omega arith) c.s-item.is before after whole (sym c.intersects.ensures ∙ w.if-intersects.true)
          (ap (λ v. v.items) w.sets-is ∙ w.in_ok-push.ensures.items ∙ ap (λ z. before ++ z ∷ []) w.union.ensures) c.loop-s.invariant
      | else-intersects+then-not-intersects+in_ok-push-2 w ↦
          kept-turn a sides one items i s (omega arith) c.s-item.is before after whole (sym c.intersects.ensures ∙ w.if-intersects.false)
          (sym w.intersects-else-intersects.ensures ∙ w.if-not-intersects.true) (ap (λ v. v.items) w.sets-is ∙ w.in_ok-push-2.ensures.items) c.loop-s.invariant
      | else-intersects+else-not-intersects w ↦
          dropped-turn a sides one items i s (omega arith) c.s-item.is before after whole (sym c.intersects.ensures ∙ w.if-intersects.false)
          (sym w.intersects-else-intersects.ensures ∙ w.if-not-intersects.false) (ap (λ v. v.items) w.sets-is) c.loop-s.invariant
    ]

pub returns : goal.returns
returns c =
    let a = c.args.a in
    let one = c.args.one in
    let sides = c.union-sides.result in
    let sets = c.loop-s.sets.items in
    let whole = sym (ap (λ z. sets ++ z) (at_drop_all (with_one a sides one) c.as_slice-s-items.result.now c.loop-s.s-index c.loop-s-test.false) ∙ append-nil sets) ∙ c.loop-s.invariant in
    let e = ap sets_of (whole ∙ ap (λ v. with_one a v one c.args.self.now) c.union-sides.ensures) ∙ sets_of-with_one a c.args.b one c.args.self.now in
    subst (λ (ss : List ℕ). IfOk c.of.result (λ r. r ≡ ss)) e c.of.ensures
