-- The variables that are gathered from a tree are those that occur in it.
use Rattle.std.proofs.Common.{◌≡◌, ℕ, Bool, true, false, ◌||◌, nat_eq, List, [], ◌∷◌, ◌++◌, refl, sym, ap, ◌∙◌, inl, inr, ◌⊎◌, if◌then◌else◌}
use Rattle.std.proofs.Math.Bool.{or-false, or_assoc}
use Rattle.std.proofs.lemmas.Bool.{false≢true, or_cases, or_left, or_right}
use Rattle.ap_term.specs.Tree.{Tree, Trees, var, int, atom, node, none, more}
use Rattle.ap_term.specs.Vars.{has, add_vars, add_all_vars, occurs, occurs_all}
use Rattle.std.proofs.lemmas.Cmp.{nat_eq_equiv}

has-append : (xs ys : List ℕ) (x : ℕ) → has (xs ++ ys) x ≡ (has xs x || has ys x)
has-append [] ys x = refl
has-append (z ∷ xs) ys x = ap (λ b. nat_eq z x || b) (has-append xs ys x) ∙ sym (or_assoc (nat_eq z x) (has xs x) (has ys x))

mutual
  -- a variable that is found was there, or stands in the tree
  pub found-add_vars : (y : ℕ) (t : Tree) (xs : List ℕ) → has (add_vars t xs) y ≡ true → (has xs y ≡ true) ⊎ (occurs y t ≡ true)
  found-add_vars y (var x) xs h = go (has xs x) h
    where
      go : (b : Bool) → has (if b then xs else xs ++ x ∷ []) y ≡ true → (has xs y ≡ true) ⊎ (nat_eq y x ≡ true)
      go true k = inl k
      go false k = elim (or_cases (has xs y) (has (x ∷ []) y) (sym (has-append xs (x ∷ []) y) ∙ k)) [
        | inl p ↦ inl p
        | inr p ↦ inr (nat_eq_equiv.symm y x ∙ sym (or-false (nat_eq x y)) ∙ p)
      ]
  found-add_vars y (int z) xs h = inl h
  found-add_vars y (atom a) xs h = inl h
  found-add_vars y (node a ts) xs h = found-add_all_vars y ts xs h

  pub found-add_all_vars : (y : ℕ) (ts : Trees) (xs : List ℕ) → has (add_all_vars ts xs) y ≡ true → (has xs y ≡ true) ⊎ (occurs_all y ts ≡ true)
  found-add_all_vars y none xs h = inl h
  found-add_all_vars y (more t ts) xs h = elim (found-add_all_vars y ts (add_vars t xs) h) [
    | inl p ↦ elim (found-add_vars y t xs p) [ inl q ↦ inl q | inr q ↦ inr (or_left (occurs y t) (occurs_all y ts) q) ]
    | inr p ↦ inr (or_right (occurs y t) (occurs_all y ts) p)
  ]

pub stands : (y : ℕ) (ts : Trees) → has (add_all_vars ts []) y ≡ true → occurs_all y ts ≡ true
stands y ts h = elim (found-add_all_vars y ts [] h) [ inl p ↦ absurd (false≢true p) | inr p ↦ p ]
