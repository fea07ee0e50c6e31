-- A tuple that is the same up to names has the same instances.
use Rattle.std.proofs.Common.{◌≡◌, ℕ, suc, ◌+◌, ◌-◌, ◌≤◌, Bool, true, false, ◌||◌, nat_eq, List, [], ◌∷◌, slice_index, refl, ap, sym, ◌∙◌, arith}
use Rattle.std.specs.Prelude.{if◌then◌else◌}
use Rattle.std.proofs.lemmas.Bool.{false≢true}
use Rattle.ap_term.specs.Tree.{Tree, Trees, var}
use Rattle.ap_term.specs.Vars.{has, add_all_vars}
use Rattle.ap_term.specs.Substitution.{instance_all}
use Rattle.ap_term.specs.UpToNames.{place, SameUpToNames}
use Rattle.ap_term.proofs.Copies.{instance_all_twice}
use Rattle.ap_term.proofs.Solutions.{same_var, instance_all_agree}
use Rattle.ap_term.proofs.Solvable.{has-add_all_vars}

place-positive : (vs : List ℕ) (x : ℕ) → 1 ≤ place vs x
place-positive [] x = omega arith
place-positive (y ∷ ys) x = go (nat_eq y x)
  where
    go : (b : Bool) → 1 ≤ (if b then 1 else place ys x + 1)
    go true = omega arith
    go false = omega arith

-- the variable that stands at its place
named-place : (vs : List ℕ) (x : ℕ) → has vs x ≡ true → slice_index vs (place vs x - 1) ≡ x
named-place [] x h = absurd (false≢true h)
named-place (y ∷ ys) x h = go (nat_eq y x) refl h (named-place ys x)
  where
    go : (b : Bool) → nat_eq y x ≡ b → (b || has ys x) ≡ true → (has ys x ≡ true → slice_index ys (place ys x - 1) ≡ x) → slice_index (y ∷ ys) ((if b then 1 else place ys x + 1) - 1) ≡ x
    go true e k on = same_var y x e
    go false e k on =
        let l = place-positive ys x in
        let s : (place ys x + 1) - 1 ≡ suc (place ys x - 1) = omega arith in
        ap (slice_index (y ∷ ys)) s ∙ on k

-- each instance of the one is one of the other
pub instance-same : (ts us : Trees) → SameUpToNames ts us → (f : ℕ → Tree) → (g : ℕ → Tree) × (instance_all g ts ≡ instance_all f us)
instance-same ts us h f = (
  λ x. at (place (add_all_vars ts []) x),
  sym (instance_all_twice (λ x. var (place (add_all_vars ts []) x)) at ts)
      ∙ ap (instance_all at) h
      ∙ instance_all_twice (λ x. var (place (add_all_vars us []) x)) at us
      ∙ instance_all_agree (λ x. at (place (add_all_vars us []) x)) f us (λ x o. ap f (named-place (add_all_vars us []) x (has-add_all_vars x us [] o))),
)
  where
    at : ℕ → Tree
    at n = f (slice_index (add_all_vars us []) (n - 1))
