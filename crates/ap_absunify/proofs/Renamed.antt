-- Substitutions that are equal, or instances of one another, are covered alike.
use Rattle.std.proofs.Common.{◌≡◌, ℕ, true, ap, sym, ◌∙◌, subst}
use Rattle.ap_term.proofs.Facts.{same_bool}
use Rattle.ap_term.specs.Tree.{Tree, var}
use Rattle.ap_term.specs.Substitution.{instance}
use Rattle.ap_term.specs.Vars.{occurs}
use Rattle.ap_sharing.specs.Share.{Member}
use Rattle.ap_sharing.specs.Covering.{CoversShare}
use Rattle.ap_freeness.specs.Free.{CoversFree, IsVar}
use Rattle.ap_absunify.specs.declared.states.State.{State}
use Rattle.ap_absunify.specs.declared.states.State.TheVariants.{Unreachable, Reachable}
use Rattle.ap_absunify.specs.State.{Covers}
use Rattle.ap_absunify.proofs.Unifier.{instance_is_var}
use Rattle.ap_absunify.proofs.Vars.{occurs_instance, any_at, fixed}
use Rattle.ap_sharing.proofs.Covers.{Member-same}
use Rattle.ap_sharing.proofs.Elements.{same_test}
use Rattle.ap_term.proofs.Copies.{instance_twice}

pub Covers-same : (s : State) (f g : ℕ → Tree) → ((x : ℕ) → f x ≡ g x) → Covers s f → Covers s g
Covers-same Unreachable f g e h = absurd h
Covers-same (Reachable sh fr) f g e h = (
  λ u x o. Member-same sh (λ y. occurs u (f y)) (λ y. occurs u (g y)) (λ y. ap (occurs u) (e y)) (h.0 u x (ap (occurs u) (e x) ∙ o)),
  λ x k. subst IsVar (e x) (h.1 x k),
)

-- substitutions that are instances of one another are covered alike
pub Covers-renamed : (s : State) (f1 f2 g h : ℕ → Tree) → ((x : ℕ) → instance g (f1 x) ≡ f2 x) → ((x : ℕ) → instance h (f2 x) ≡ f1 x) → Covers s f1 → Covers s f2
Covers-renamed Unreachable f1 f2 g h p q c = absurd c
Covers-renamed (Reachable sh fr) f1 f2 g h p q c = (share, free)
  where
    share : CoversShare sh f2
    share w x o =
        let e : instance g (h w) ≡ var w = fixed (λ y. instance g (h y)) w (f2 x) (sym (instance_twice h g (f2 x)) ∙ ap (instance g) (q x) ∙ p x) o in
        let v = instance_is_var g (h w) w e in
        go v.0 v.1 (sym (ap (instance g) v.1) ∙ e)
      where
        go : (v : ℕ) → h w ≡ var v → g v ≡ var w → Member sh (λ y. occurs w (f2 y))
        go v hv gv = Member-same sh (λ y. occurs v (f1 y)) (λ y. occurs w (f2 y)) same (c.0 v x (there x o))
          where
            there : (y : ℕ) → occurs w (f2 y) ≡ true → occurs v (f1 y) ≡ true
            there y k = sym (ap (occurs v) (q y)) ∙ occurs_instance v h (f2 y) ∙ any_at (λ r. occurs v (h r)) w (f2 y) k (ap (occurs v) hv ∙ same_test v)

            back : (y : ℕ) → occurs v (f1 y) ≡ true → occurs w (f2 y) ≡ true
            back y k = sym (ap (occurs w) (p y)) ∙ occurs_instance w g (f1 y) ∙ any_at (λ r. occurs w (g r)) v (f1 y) k (ap (occurs w) gv ∙ same_test w)

            same : (y : ℕ) → occurs v (f1 y) ≡ occurs w (f2 y)
            same y = same_bool (occurs v (f1 y)) (occurs w (f2 y)) (back y) (there y)

    free : CoversFree fr f2
    free x k = let r = c.1 x k in instance_is_var h (f2 x) r.0 (q x ∙ r.1)
