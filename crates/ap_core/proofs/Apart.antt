-- Goals that the test finds apart share no variable.
use Rattle.std.proofs.Common.{◌≡◌, ℕ, Bool, true, false, not, ◌||◌, nat_eq, List, [], ◌∷◌, refl, sym, ◌∙◌}
use Rattle.std.specs.List.{list_all}
use Rattle.std.proofs.lemmas.Bool.{false≢true, not-true, eqb-true, and_parts}
use Rattle.std.proofs.Math.Bool.{or-true}
use Rattle.ap_term.specs.Tree.{Tree, Trees, none, more}
use Rattle.ap_term.specs.Vars.{has, vars, add_vars, occurs}
use Rattle.ap_term.specs.Independence.{IsApart, AreApart}
use Rattle.ap_term.proofs.Solvable.{has-add_vars}
use Rattle.ap_core.specs.Conditions.{are_apart_from, are_apart}
use Rattle.ap_term.proofs.Found.{has-kept}

-- what is tested of each number of a list is so of one that it has
passes : (f : ℕ → Bool) (xs : List ℕ) (x : ℕ) → list_all f xs ≡ true → has xs x ≡ true → f x ≡ true
passes f [] x h k = absurd (false≢true k)
passes f (y ∷ xs) x h k = go (nat_eq y x) refl k (λ l. passes f xs x (and_parts (f y) (list_all f xs) h).1 l)
  where
    q : (f y ≡ true) × (list_all f xs ≡ true)
    q = and_parts (f y) (list_all f xs) h

    go : (b : Bool) → nat_eq y x ≡ b → (b || has xs x) ≡ true → (has xs x ≡ true → f x ≡ true) → f x ≡ true
    go true e k rec = let w : y ≡ x = eqb-true y x e in rw (← w) q.0
    go false e k rec = rec k

has_own : (t : Tree) (seen : List ℕ) (x : ℕ) → occurs x t ≡ true → has (add_vars t seen) x ≡ true
has_own t seen x h = has-add_vars x t seen (rw h (or-true (has seen x)))

-- no variable seen stands in the goals
unseen : (ts : Trees) (seen : List ℕ) (t : Tree) → ((x : ℕ) → occurs x t ≡ true → has seen x ≡ true) → are_apart_from seen ts ≡ true → IsApart t ts
unseen none seen t s h = tt
unseen (more u ts) seen t s h = (λ x o. go x o (occurs x u) refl, unseen ts (add_vars u seen) t (λ x o. has-kept u seen x (s x o)) q.1)
  where
    q : (list_all (λ x. not (has seen x)) (vars u) ≡ true) × (are_apart_from (add_vars u seen) ts ≡ true)
    q = and_parts (list_all (λ x. not (has seen x)) (vars u)) (are_apart_from (add_vars u seen) ts) h

    go : (x : ℕ) → occurs x t ≡ true → (b : Bool) → occurs x u ≡ b → occurs x u ≡ false
    go x o true e = absurd (false≢true (sym (not-true (has seen x) (passes (λ y. not (has seen y)) (vars u) x q.0 (has_own u [] x e))) ∙ s x o))
    go x o false e = e

AreApart-from : (ts : Trees) (seen : List ℕ) → are_apart_from seen ts ≡ true → AreApart ts
AreApart-from none seen h = tt
AreApart-from (more t ts) seen h =
    let q = and_parts (list_all (λ x. not (has seen x)) (vars t)) (are_apart_from (add_vars t seen) ts) h in
    (unseen ts (add_vars t seen) t (λ x o. has_own t seen x o) q.1, AreApart-from ts (add_vars t seen) q.1)

pub AreApart-are_apart : (ts : Trees) → are_apart ts ≡ true → AreApart ts
AreApart-are_apart ts h = AreApart-from ts [] h
