-- Variables of trees and of their instances.
pub use Rattle.std.proofs.lemmas.Bool.{or_cases, or_from as or_false, or_parts as or_none, and_parts as and_both, and_from as and_made, cases_Bool as decide, false_from_ne_true as refuted}
use Rattle.std.proofs.Common.{◌≡◌, ℕ, inl, inr, Bool, true, false, ◌||◌, nat_eq, refl, ap, ap₂, sym, ◌∙◌}
use Rattle.std.proofs.lemmas.Bool.{false≢true, or_left, or_right}
use Rattle.ap_term.specs.Tree.{Tree, Trees, var, int, atom, node, none, more}
use Rattle.ap_term.specs.Substitution.{instance, instance_all}
use Rattle.ap_term.specs.Vars.{occurs, occurs_all}
use Rattle.ap_term.proofs.Solutions.{same_var}
use Rattle.ap_sharing.proofs.Elements.{same_test}

-- whether a variable of the tree passes
abbrev mutual
  pub any_var : (ℕ → Bool) → Tree → Bool
  any_var p (var x) = p x
  any_var p (int z) = false
  any_var p (atom a) = false
  any_var p (node a ts) = any_var_all p ts

  pub any_var_all : (ℕ → Bool) → Trees → Bool
  any_var_all p none = false
  any_var_all p (more t ts) = any_var p t || any_var_all p ts

mutual
  pub occurs_instance : (x : ℕ) (u : ℕ → Tree) (t : Tree) → occurs x (instance u t) ≡ any_var (λ v. occurs x (u v)) t
  occurs_instance x u (var y) = refl
  occurs_instance x u (int z) = refl
  occurs_instance x u (atom a) = refl
  occurs_instance x u (node a ts) = occurs_instance_all x u ts

  pub occurs_instance_all : (x : ℕ) (u : ℕ → Tree) (ts : Trees) → occurs_all x (instance_all u ts) ≡ any_var_all (λ v. occurs x (u v)) ts
  occurs_instance_all x u none = refl
  occurs_instance_all x u (more t ts) =
      ap (λ b. b || occurs_all x (instance_all u ts)) (occurs_instance x u t) ∙ ap (λ b. any_var (λ v. occurs x (u v)) t || b) (occurs_instance_all x u ts)

mutual
  pub any_some : (p : ℕ → Bool) (t : Tree) → any_var p t ≡ true → (v : ℕ) × (occurs v t ≡ true) × (p v ≡ true)
  any_some p (var x) h = (x, same_test x, h)
  any_some p (int z) h = absurd (false≢true h)
  any_some p (atom a) h = absurd (false≢true h)
  any_some p (node a ts) h = any_all_some p ts h

  pub any_all_some : (p : ℕ → Bool) (ts : Trees) → any_var_all p ts ≡ true → (v : ℕ) × (occurs_all v ts ≡ true) × (p v ≡ true)
  any_all_some p none h = absurd (false≢true h)
  any_all_some p (more t ts) h =
      elim (or_cases (any_var p t) (any_var_all p ts) h) [
        | inl k ↦ (let r = any_some p t k in (r.0, or_left (occurs r.0 t) (occurs_all r.0 ts) r.1, r.2))
        | inr k ↦ (let r = any_all_some p ts k in (r.0, or_right (occurs r.0 t) (occurs_all r.0 ts) r.1, r.2))
      ]

mutual
  pub any_at : (p : ℕ → Bool) (v : ℕ) (t : Tree) → occurs v t ≡ true → p v ≡ true → any_var p t ≡ true
  any_at p v (var x) h k = let e : v ≡ x = same_var v x h in sym (ap p e) ∙ k
  any_at p v (int z) h k = absurd (false≢true h)
  any_at p v (atom a) h k = absurd (false≢true h)
  any_at p v (node a ts) h k = any_all_at p v ts h k

  pub any_all_at : (p : ℕ → Bool) (v : ℕ) (ts : Trees) → occurs_all v ts ≡ true → p v ≡ true → any_var_all p ts ≡ true
  any_all_at p v none h k = absurd (false≢true h)
  any_all_at p v (more t ts) h k =
      elim (or_cases (occurs v t) (occurs_all v ts) h) [
        | inl j ↦ or_left (any_var p t) (any_var_all p ts) (any_at p v t j k)
        | inr j ↦ or_right (any_var p t) (any_var_all p ts) (any_all_at p v ts j k)
      ]

mutual
  -- the variables of a tree are those that pass their own test
  pub occurs-any : (x : ℕ) (t : Tree) → occurs x t ≡ any_var (nat_eq x) t
  occurs-any x (var y) = refl
  occurs-any x (int z) = refl
  occurs-any x (atom a) = refl
  occurs-any x (node a ts) = occurs_all-any x ts

  pub occurs_all-any : (x : ℕ) (ts : Trees) → occurs_all x ts ≡ any_var_all (nat_eq x) ts
  occurs_all-any x none = refl
  occurs_all-any x (more t ts) = ap (λ b. b || occurs_all x ts) (occurs-any x t) ∙ ap (λ b. any_var (nat_eq x) t || b) (occurs_all-any x ts)

mutual
  pub any_same : (p q : ℕ → Bool) (t : Tree) → ((r : ℕ) → p r ≡ q r) → any_var p t ≡ any_var q t
  any_same p q (var x) h = h x
  any_same p q (int z) h = refl
  any_same p q (atom a) h = refl
  any_same p q (node a ts) h = any_all_same p q ts h

  pub any_all_same : (p q : ℕ → Bool) (ts : Trees) → ((r : ℕ) → p r ≡ q r) → any_var_all p ts ≡ any_var_all q ts
  any_all_same p q none h = refl
  any_all_same p q (more t ts) h = ap₂ (λ a b. a || b) (any_same p q t h) (any_all_same p q ts h)

mutual
  pub any_agree : (p q : ℕ → Bool) (t : Tree) → ((r : ℕ) → occurs r t ≡ true → p r ≡ q r) → any_var p t ≡ any_var q t
  any_agree p q (var x) h = h x (same_test x)
  any_agree p q (int z) h = refl
  any_agree p q (atom a) h = refl
  any_agree p q (node a ts) h = any_all_agree p q ts h

  pub any_all_agree : (p q : ℕ → Bool) (ts : Trees) → ((r : ℕ) → occurs_all r ts ≡ true → p r ≡ q r) → any_var_all p ts ≡ any_var_all q ts
  any_all_agree p q none h = refl
  any_all_agree p q (more t ts) h =
      ap₂ (λ a b. a || b) (any_agree p q t (λ r o. h r (or_left (occurs r t) (occurs_all r ts) o))) (any_all_agree p q ts (λ r o. h r (or_right (occurs r t) (occurs_all r ts) o)))

pub occurs_same : (x : ℕ) (q : ℕ → Bool) (t : Tree) → ((r : ℕ) → nat_eq x r ≡ q r) → occurs x t ≡ any_var q t
occurs_same x q t h = occurs-any x t ∙ any_same (nat_eq x) q t h

pub occurs_agree : (x : ℕ) (q : ℕ → Bool) (t : Tree) → ((r : ℕ) → occurs r t ≡ true → nat_eq x r ≡ q r) → occurs x t ≡ any_var q t
occurs_agree x q t h = occurs-any x t ∙ any_agree (nat_eq x) q t h

-- a substitution that leaves a tree alone leaves its variables alone
mutual
  pub fixed : (f : ℕ → Tree) (y : ℕ) (t : Tree) → instance f t ≡ t → occurs y t ≡ true → f y ≡ var y
  fixed f y (var x) h k = let e : y ≡ x = same_var y x k in ap f e ∙ h ∙ ap var (sym e)
  fixed f y (int z) h k = absurd (false≢true k)
  fixed f y (atom a) h k = absurd (false≢true k)
  fixed f y (node a ts) h k = fixed_all f y ts (cc) k

  pub fixed_all : (f : ℕ → Tree) (y : ℕ) (ts : Trees) → instance_all f ts ≡ ts → occurs_all y ts ≡ true → f y ≡ var y
  fixed_all f y none h k = absurd (false≢true k)
  fixed_all f y (more t ts) h k =
      let p : instance f t ≡ t = cc in
      let q : instance_all f ts ≡ ts = cc in
      elim (or_cases (occurs y t) (occurs_all y ts) k) [ inl j ↦ fixed f y t p j | inr j ↦ fixed_all f y ts q j ]
