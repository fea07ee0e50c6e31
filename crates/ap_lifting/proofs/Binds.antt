-- The unifier of a call of a lifted predicate: the head's variables, which are new, stand for the call's arguments.
use Rattle.std.proofs.Common.{◌≡◌, ℕ, zero, suc, ◌+◌, ◌<◌, ◌≤◌, Bool, true, false, ◌||◌, ◌==◌, if◌then◌else◌, nat_eq, refl, ap, sym, ◌∙◌, subst, arith}
use Rattle.std.proofs.lemmas.Bool.{false≢true, or_left, or_right, and_parts}
use Rattle.std.proofs.lemmas.Bool.Decides.{nat_tests}
use Rattle.std.specs.Prelude.{[], ◌∷◌, Some}
use Rattle.ap_term.specs.Tree.{Tree, Trees, var, int, atom, node, none, more, push_tree}
use Rattle.ap_term.specs.Vars.{occurs, occurs_all, Local, LocalAll}
use Rattle.ap_term.specs.Substitution.{instance, instance_all, Subst, value, shift}
use Rattle.ap_term.specs.Unifier.{IsMostGeneral}
use Rattle.ap_term.specs.Search.{variables}
use Rattle.ap_term.specs.WellFormed.{in_range, numbered, numbered_all}
use Rattle.ap_term.proofs.Copies.{instance_var, instance_all_var, instance_twice, instance_all_twice}
use Rattle.ap_term.proofs.Solutions.{same_var, same_test}
use Rattle.ap_term.proofs.Locals.{instance-Local, instance_all-LocalAll}
use Rattle.ap_laws.specs.Renaming.{LocalSubst}
use Rattle.ap_laws.proofs.Unifiers.{instance-at}
use Rattle.ap_lifting.specs.Lifted.{applied}
use Rattle.ap_lifting.proofs.Kept.{applied-variables}

-- ---- a clause's variables

abbrev pub InRange : ℕ → ℕ → Type 0
InRange n x = (1 ≤ x) × (x ≤ n)

ranged : (n x : ℕ) → in_range n x ≡ true → InRange n x
ranged n x h = (grind (arith, nat_tests), grind (arith, nat_tests))

mutual
  pub Local-numbered : (n : ℕ) (t : Tree) → numbered n t ≡ true → Local (InRange n) t
  Local-numbered n (var x) h = ranged n x h
  Local-numbered n (int z) h = tt
  Local-numbered n (atom a) h = tt
  Local-numbered n (node a ts) h = LocalAll-numbered n ts h

  pub LocalAll-numbered : (n : ℕ) (ts : Trees) → numbered_all n ts ≡ true → LocalAll (InRange n) ts
  LocalAll-numbered n none h = tt
  LocalAll-numbered n (more t ts) h =
      (Local-numbered n t (and_parts (numbered n t) (numbered_all n ts) h).0, LocalAll-numbered n ts (and_parts (numbered n t) (numbered_all n ts) h).1)

occurs_all-push : (x : ℕ) (ts : Trees) (t : Tree) → (occurs_all x ts || occurs x t) ≡ true → occurs_all x (push_tree ts t) ≡ true
occurs_all-push x none t h = or_left (occurs x t) false h
occurs_all-push x (more u ts) t h = go (occurs x u) h (occurs_all-push x ts t)
  where
    go : (b : Bool) → ((b || occurs_all x ts) || occurs x t) ≡ true → ((occurs_all x ts || occurs x t) ≡ true → occurs_all x (push_tree ts t) ≡ true) → (b || occurs_all x (push_tree ts t)) ≡ true
    go true k rest = refl
    go false k rest = rest k

occurs_all-variables : (n x : ℕ) → 1 ≤ x → x ≤ n → occurs_all x (variables n) ≡ true
occurs_all-variables zero x h k = absurd (omega arith)
occurs_all-variables (suc n) x h k = occurs_all-push x (variables n) (var (suc n)) (go (nat_eq x (suc n)) refl (occurs_all-variables n x h))
  where
    go : (b : Bool) → nat_eq x (suc n) ≡ b → (x ≤ n → occurs_all x (variables n) ≡ true) → (occurs_all x (variables n) || nat_eq x (suc n)) ≡ true
    go true e rest = or_right (occurs_all x (variables n)) (nat_eq x (suc n)) e
    go false e rest =
        let other : x ≡ suc n → ⊥ = λ same. false≢true (sym e ∙ same_test x (suc n) same) in
        or_left (occurs_all x (variables n)) (nat_eq x (suc n)) (rest (omega arith))

pub occurs-applied : (a n x : ℕ) → 1 ≤ x → x ≤ n → occurs x (applied a (variables n)) ≡ true
occurs-applied a n x h k = subst (λ t. occurs x t ≡ true) (sym (applied-variables a n (omega arith))) (occurs_all-variables n x h k)

-- ---- the unifier

module _ (f : ℕ → Tree) (n : ℕ) where
  abbrev pub binds : ℕ → Subst
  binds zero = []
  binds (suc v) = (suc v + n, f (suc v)) ∷ binds v

  pub value-bound : (v x : ℕ) → 1 ≤ x → x ≤ v → value (binds v) (x + n) ≡ f x
  value-bound zero x h k = absurd (omega arith)
  value-bound (suc v) x h k = go ((suc v + n) == (x + n)) refl (value-bound v x h)
    where
      go : (b : Bool) → ((suc v + n) == (x + n)) ≡ b → (x ≤ v → value (binds v) (x + n) ≡ f x) → (if b then f (suc v) else value (binds v) (x + n)) ≡ f x
      go true e rest = let same : suc v + n ≡ x + n = same_var (suc v + n) (x + n) e in ap f (omega arith)
      go false e rest =
          let other : suc v ≡ x → ⊥ = λ same. false≢true (sym e ∙ same_test (suc v + n) (x + n) (ap (λ y. y + n) same)) in
          rest (omega arith)

  pub value-free : (v x : ℕ) → x ≤ n → value (binds v) x ≡ var x
  value-free zero x h = refl
  value-free (suc v) x h = go ((suc v + n) == x) refl (value-free v x h)
    where
      go : (b : Bool) → ((suc v + n) == x) ≡ b → value (binds v) x ≡ var x → (if b then f (suc v) else value (binds v) x) ≡ var x
      go true e rest = let same : suc v + n ≡ x = same_var (suc v + n) x e in absurd (omega arith)
      go false e rest = rest

  pub binds-general : (F : ℕ → Tree) (v : ℕ) → ((x : ℕ) → 1 ≤ x → x ≤ v → instance F (f x) ≡ F (x + n)) → (x : ℕ) → instance F (value (binds v) x) ≡ F x
  binds-general F zero h x = refl
  binds-general F (suc v) h x = go ((suc v + n) == x) refl (binds-general F v (λ y l m. h y l (omega arith)) x)
    where
      go : (b : Bool) → ((suc v + n) == x) ≡ b → instance F (value (binds v) x) ≡ F x → instance F (if b then f (suc v) else value (binds v) x) ≡ F x
      go true e rest = h (suc v) (omega arith) (omega arith) ∙ ap F (same_var (suc v + n) x e)
      go false e rest = rest

  pub LocalSubst-binds : (P : ℕ → Type 0) (v : ℕ) → ((x : ℕ) → 1 ≤ x → x ≤ v → Local P (f x) × P (x + n)) → LocalSubst P (binds v)
  LocalSubst-binds P zero h = tt
  LocalSubst-binds P (suc v) h =
      let here = h (suc v) (omega arith) (omega arith) in
      ((here.1, here.0), LocalSubst-binds P v (λ x l m. h x l (omega arith)))

  -- what is not new stays; what has the clause's variables becomes its instance
  pub old-stays : (v : ℕ) (ts : Trees) → LocalAll (λ x. x < n) ts → instance_all (value (binds v)) ts ≡ ts
  old-stays v ts h = instance_all-LocalAll (λ x. x < n) (value (binds v)) (λ x. var x) (λ x l. value-free v x (omega arith)) ts h ∙ instance_all_var ts

  pub new-becomes : (v : ℕ) (ts : Trees) → LocalAll (InRange v) ts → instance_all (value (binds v)) (instance_all (shift n) ts) ≡ instance_all f ts
  new-becomes v ts h =
      instance_all_twice (shift n) (value (binds v)) ts
      ∙ instance_all-LocalAll (InRange v) (λ x. instance (value (binds v)) (shift n x)) f (λ x l. value-bound v x l.0 l.1) ts h

  -- of a call with arguments and the head
  pub binds-unifier : (v : ℕ) (h : Tree) → Local (InRange v) h → Local (λ x. x < n) (instance f h) → ((x : ℕ) → 1 ≤ x → x ≤ v → occurs x h ≡ true)
      → IsMostGeneral (instance f h) (instance (shift n) h) (Some (binds v))
  binds-unifier v h range old all = (
    instance-Local (λ x. x < n) (value (binds v)) (λ x. var x) (λ x l. value-free v x (omega arith)) (instance f h) old
        ∙ instance_var (instance f h)
        ∙ sym (instance_twice (shift n) (value (binds v)) h ∙ instance-Local (InRange v) (λ x. instance (value (binds v)) (shift n x)) f (λ x l. value-bound v x l.0 l.1) h range),
    λ F e. binds-general F v
        (λ x l m. instance-at (λ y. instance F (f y)) (λ y. instance F (shift n y)) h (sym (instance_twice f F h) ∙ e ∙ instance_twice (shift n) F h) x (all x l m)),
  )
