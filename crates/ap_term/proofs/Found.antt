-- Where a variable that was found stands, and of which variable one of an instance comes.
use Rattle.std.proofs.Common.{◌≡◌, ℕ, ◌⊎◌, inl, inr, Bool, true, false, ◌||◌, nat_eq, if◌then◌else◌, List, [], ◌∷◌, ◌++◌, refl, sym}
use Rattle.std.proofs.lemmas.Bool.{false≢true, eq-eqb, eqb-true, or_cases, or_left, or_right}
use Rattle.ap_term.specs.Tree.{Tree, Trees, var, int, atom, node, none, more}
use Rattle.ap_term.specs.Vars.{has, vars, add_vars, add_all_vars, occurs, occurs_all}
use Rattle.ap_term.specs.Substitution.{instance, instance_all}
use Rattle.ap_term.proofs.Solutions.{same_test}
use Rattle.ap_term.proofs.Solvable.{has-add_vars}

-- ---- the variables that are found

pub has-last : (xs : List ℕ) (y x : ℕ) → has (xs ++ y ∷ []) x ≡ true → (has xs x ≡ true) ⊎ (nat_eq y x ≡ true)
has-last [] y x h = elim (or_cases (nat_eq y x) false h) [ inl p ↦ inr p | inr p ↦ absurd (false≢true p) ]
has-last (z ∷ xs) y x h = go (nat_eq z x) h (has-last xs y x)
  where
    go : (b : Bool) → (b || has (xs ++ y ∷ []) x) ≡ true → (has (xs ++ y ∷ []) x ≡ true → (has xs x ≡ true) ⊎ (nat_eq y x ≡ true)) → ((b || has xs x) ≡ true) ⊎ (nat_eq y x ≡ true)
    go true h rec = inl refl
    go false h rec = rec h

pub has-push : (xs : List ℕ) (x : ℕ) → has (xs ++ x ∷ []) x ≡ true
has-push [] x = or_left (nat_eq x x) false (same_test x x refl)
has-push (y ∷ xs) x = or_right (nat_eq y x) (has (xs ++ x ∷ []) x) (has-push xs x)

pub has-added : (xs : List ℕ) (x : ℕ) → has (add_vars (var x) xs) x ≡ true
has-added xs x = has-add_vars x (var x) xs (or_right (has xs x) (nat_eq x x) (same_test x x refl))

pub has-kept : (t : Tree) (xs : List ℕ) (x : ℕ) → has xs x ≡ true → has (add_vars t xs) x ≡ true
has-kept t xs x h = has-add_vars x t xs (or_left (has xs x) (occurs x t) h)

-- a test of two numbers, the other way round
turned : (x y : ℕ) → nat_eq y x ≡ true → nat_eq x y ≡ true
turned x y h = eq-eqb x y (sym (eqb-true y x h))

mutual
  -- a variable that was found was seen before or stands in the tree
  pub found_back : (x : ℕ) (t : Tree) (seen : List ℕ) → has (add_vars t seen) x ≡ true → (has seen x ≡ true) ⊎ (occurs x t ≡ true)
  found_back x (var y) seen h = go (has seen y) h
    where
      go : (b : Bool) → has (if b then seen else seen ++ y ∷ []) x ≡ true → (has seen x ≡ true) ⊎ (nat_eq x y ≡ true)
      go true h = inl h
      go false h = elim (has-last seen y x h) [ inl p ↦ inl p | inr p ↦ inr (turned x y p) ]
  found_back x (int z) seen h = inl h
  found_back x (atom a) seen h = inl h
  found_back x (node a ts) seen h = found_all_back x ts seen h

  pub found_all_back : (x : ℕ) (ts : Trees) (seen : List ℕ) → has (add_all_vars ts seen) x ≡ true → (has seen x ≡ true) ⊎ (occurs_all x ts ≡ true)
  found_all_back x none seen h = inl h
  found_all_back x (more t ts) seen h = go (found_all_back x ts (add_vars t seen) h) (found_back x t seen)
    where
      go : (has (add_vars t seen) x ≡ true) ⊎ (occurs_all x ts ≡ true) → (has (add_vars t seen) x ≡ true → (has seen x ≡ true) ⊎ (occurs x t ≡ true)) → (has seen x ≡ true) ⊎ ((occurs x t || occurs_all x ts) ≡ true)
      go (inr p) rec = inr (or_right (occurs x t) (occurs_all x ts) p)
      go (inl p) rec = elim (rec p) [ inl q ↦ inl q | inr q ↦ inr (or_left (occurs x t) (occurs_all x ts) q) ]

-- ---- of one term

pub in_vars : (x : ℕ) (t : Tree) → has (vars t) x ≡ true → occurs x t ≡ true
in_vars x t h = elim (found_back x t [] h) [ inl p ↦ absurd (false≢true p) | inr p ↦ p ]

pub in_tree : (x : ℕ) (t : Tree) → occurs x t ≡ true → has (vars t) x ≡ true
in_tree x t h = has-add_vars x t [] h

-- ---- where a variable of an instance comes from

abbrev pub Source : (ℕ → Tree) → ℕ → (ℕ → Bool) → Type 0
Source f v holds = (x : ℕ) × ((holds x ≡ true) × (occurs v (f x) ≡ true))

mutual
  pub source : (f : ℕ → Tree) (v : ℕ) (t : Tree) → occurs v (instance f t) ≡ true → Source f v (λ x. occurs x t)
  source f v (var x) h = (x, (same_test x x refl, h))
  source f v (int z) h = absurd (false≢true h)
  source f v (atom a) h = absurd (false≢true h)
  source f v (node a ts) h = source_all f v ts h

  pub source_all : (f : ℕ → Tree) (v : ℕ) (ts : Trees) → occurs_all v (instance_all f ts) ≡ true → Source f v (λ x. occurs_all x ts)
  source_all f v none h = absurd (false≢true h)
  source_all f v (more t ts) h =
      elim (or_cases (occurs v (instance f t)) (occurs_all v (instance_all f ts)) h) [
        | inl k ↦ let r = source f v t k in (r.0, (or_left (occurs r.0 t) (occurs_all r.0 ts) r.1.0, r.1.1))
        | inr k ↦ let r = source_all f v ts k in (r.0, (or_right (occurs r.0 t) (occurs_all r.0 ts) r.1.0, r.1.1))
      ]
