-- What ground covers.
use Rattle.std.proofs.Common.{◌≡◌, ℕ, Bool, true, false, nat_eq, refl, ap, sym, ◌∙◌}
use Rattle.ap_term.specs.Tree.{Tree, var}
use Rattle.ap_term.specs.Substitution.{instance}
use Rattle.ap_term.specs.Vars.{occurs}
use Rattle.ap_sharing.specs.VarSet.{has, union, both, without}
use Rattle.ap_sharing.specs.Share.{nonground, met, ground_share}
use Rattle.ap_sharing.specs.Covering.{CoversShare}
use Rattle.ap_freeness.specs.Free.{CoversFree, IsVar}
use Rattle.ap_absunify.specs.declared.states.State.{State}
use Rattle.ap_absunify.specs.declared.states.State.TheVariants.{Unreachable, Reachable}
use Rattle.ap_absunify.specs.State.{Covers, ground}
use Rattle.ap_absunify.proofs.Vars.{or_none, refuted, any_var, occurs_instance, any_some, occurs_same}
use Rattle.ap_sharing.proofs.Covers.{Member-same, met-has, Member-ground}
use Rattle.ap_sharing.proofs.Elements.{same_test, clash, has-union, both_left, without_parts}
use Rattle.ap_term.proofs.Solutions.{same_var}

-- u grounds what passes q, the variables in the instances of v, and leaves all others alone
pub ground-covers : (s : State) (v : ℕ) (f u : ℕ → Tree) (q : ℕ → Bool)
    → ((r w : ℕ) → q r ≡ true → occurs w (u r) ≡ false)
    → ((r : ℕ) → q r ≡ false → u r ≡ var r)
    → ((r : ℕ) → q r ≡ true → (z : ℕ) × (has v z ≡ true) × (occurs r (f z) ≡ true))
    → ((r z : ℕ) → has v z ≡ true → occurs r (f z) ≡ true → q r ≡ true)
    → Covers s f → Covers (ground s v) (λ x. instance u (f x))
ground-covers Unreachable v f u q gr st ex al h = absurd h
ground-covers (Reachable sh fr) v f u q gr st ex al h = (share, free)
  where
    share : CoversShare (ground_share sh v) (λ x. instance u (f x))
    share w x o =
        Member-same (ground_share sh v) (λ y. occurs w (f y)) (λ y. occurs w (instance u (f y))) same
        (Member-ground sh v (λ y. occurs w (f y)) (λ z k. refuted (occurs w (f z)) (λ j. clash (q w) (al w z k j) kept)) (h.0 w x here))
      where
        o2 : any_var (λ r. occurs w (u r)) (f x) ≡ true
        o2 = sym (occurs_instance w u (f x)) ∙ o

        at : (r : ℕ) × (occurs r (f x) ≡ true) × (occurs w (u r) ≡ true)
        at = any_some (λ r. occurs w (u r)) (f x) o2

        notq : q at.0 ≡ false
        notq = refuted (q at.0) (λ k. clash (occurs w (u at.0)) at.2 (gr at.0 w k))

        is : w ≡ at.0
        is = same_var w at.0 (sym (ap (occurs w) (st at.0 notq)) ∙ at.2)

        kept : q w ≡ false
        kept = ap q is ∙ notq

        here : occurs w (f x) ≡ true
        here = ap (λ z. occurs z (f x)) is ∙ at.1

        each : (r : ℕ) → nat_eq w r ≡ occurs w (u r)
        each r = go (q r) refl
          where
            go : (b : Bool) → q r ≡ b → nat_eq w r ≡ occurs w (u r)
            go true e = refuted (nat_eq w r) (λ k. clash (q r) e (ap q (sym (same_var w r k)) ∙ kept)) ∙ sym (gr r w e)
            go false e = sym (ap (occurs w) (st r e))

        same : (y : ℕ) → occurs w (f y) ≡ occurs w (instance u (f y))
        same y = occurs_same w (λ r. occurs w (u r)) (f y) each ∙ sym (occurs_instance w u (f y))

    free : CoversFree (both (without fr (union v (met sh v))) (nonground (ground_share sh v))) (λ x. instance u (f x))
    free y k =
        let p = without_parts fr (union v (met sh v)) y (both_left (without fr (union v (met sh v))) (nonground (ground_share sh v)) y k) in
        let r = h.1 y p.0 in
        go r.0 r.1 (or_none (has v y) (has (met sh v) y) (sym (has-union v (met sh v) y) ∙ p.1)).1 (q r.0) refl
      where
        go : (r : ℕ) → f y ≡ var r → has (met sh v) y ≡ false → (b : Bool) → q r ≡ b → IsVar (instance u (f y))
        go r e n true j =
            let z = ex r j in
            let o : occurs r (f y) ≡ true = ap (occurs r) e ∙ same_test r in
            absurd (clash (has (met sh v) y) (met-has sh v (λ y. occurs r (f y)) z.0 y (h.0 r y o) z.1 z.2 o) n)
        go r e n false j = (r, ap (instance u) e ∙ st r j)
