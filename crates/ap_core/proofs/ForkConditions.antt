-- The conditions of a fork say what they are meant to: the checks hold, and the goals share no variable.
use Rattle.std.specs.Prelude.{◌↔◌}
use Rattle.std.proofs.Common.{◌≡◌, ℕ, ◌⊎◌, inl, inr, Bool, true, false, not, ◌||◌, ◌&&◌, nat_eq, if◌then◌else◌, List, [], ◌∷◌, ◌++◌, refl, ap, sym, ◌∙◌, subst}
use Rattle.std.specs.List.{list_all}
use Rattle.std.proofs.lemmas.Bool.{false≢true, not-true, eqb-true, eq-eqb, ne_eqb, or_right, or_left, or_from, or_parts, and_from}
use Rattle.ap_term.specs.declared.clauses.Check.{Check}
use Rattle.ap_term.specs.declared.clauses.Check.TheVariants.{Ground, Indep}
use Rattle.ap_term.specs.Tree.{Tree, Trees, var, int, atom, node, none, more}
use Rattle.ap_term.specs.Vars.{has, vars, add_vars, add_all_vars, occurs, occurs_all}
use Rattle.ap_term.specs.Independence.{SharesNoVariable, IsApart, AreApart, IsGround, Holds}
use Rattle.ap_term.proofs.Found.{found_back, in_vars}
use Rattle.ap_core.specs.Conditions.{check_holds, are_apart_from, are_apart}
use Rattle.ap_core.specs.ForkLaw.{ForkLaw}
use Rattle.ap_core.proofs.Apart.{AreApart-are_apart}

all_true : (f : ℕ → Bool) (xs : List ℕ) → ((x : ℕ) → has xs x ≡ true → f x ≡ true) → list_all f xs ≡ true
all_true f [] h = refl
all_true f (y ∷ xs) h = and_from (f y) (list_all f xs) (h y (or_left (nat_eq y y) (has xs y) (eq-eqb y y refl))) (all_true f xs (λ x k. h x (or_right (nat_eq y x) (has xs x) k)))

apart_from_all : (t : Tree) (ts : Trees) (x : ℕ) → IsApart t ts → occurs x t ≡ true → occurs_all x ts ≡ false
apart_from_all t none x h o = refl
apart_from_all t (more u ts) x h o = or_from (occurs x u) (occurs_all x ts) (h.0 x o) (apart_from_all t ts x h.1 o)

are_apart_from-AreApart : (ts : Trees) (seen : List ℕ) → AreApart ts → ((x : ℕ) → has seen x ≡ true → occurs_all x ts ≡ false) → are_apart_from seen ts ≡ true
are_apart_from-AreApart none seen a h = refl
are_apart_from-AreApart (more t ts) seen a h = and_from (list_all (λ x. not (has seen x)) (vars t)) (are_apart_from (add_vars t seen) ts) (all_true (λ x. not (has seen x)) (vars t) unseen) (are_apart_from-AreApart ts (add_vars t seen) a.1 later)
  where
    unseen : (x : ℕ) → has (vars t) x ≡ true → not (has seen x) ≡ true
    unseen x k = go (has seen x) refl
      where
        go : (b : Bool) → has seen x ≡ b → not b ≡ true
        go true e = absurd (false≢true (sym (h x e) ∙ or_left (occurs x t) (occurs_all x ts) (in_vars x t k)))
        go false e = refl

    later : (x : ℕ) → has (add_vars t seen) x ≡ true → occurs_all x ts ≡ false
    later x k = go (found_back x t seen k)
      where
        go : (has seen x ≡ true) ⊎ (occurs x t ≡ true) → occurs_all x ts ≡ false
        go (inl p) = (or_parts (occurs x t) (occurs_all x ts) (h x p)).1
        go (inr p) = apart_from_all t ts x a.0 p

check-forth : (c : Check) → check_holds c ≡ true → Holds var c
check-forth (Ground x) h = absurd (false≢true h)
check-forth (Indep x y) h = λ z o. differ z o (nat_eq z y) refl
  where
    differ : (z : ℕ) → nat_eq z x ≡ true → (b : Bool) → nat_eq z y ≡ b → nat_eq z y ≡ false
    differ z o true e = absurd (false≢true (sym (not-true (nat_eq x y) h) ∙ eq-eqb x y (sym (eqb-true z x o) ∙ eqb-true z y e)))
    differ z o false e = e

check-back : (c : Check) → Holds var c → check_holds c ≡ true
check-back (Ground x) h = absurd (false≢true (sym (h x) ∙ eq-eqb x x refl))
check-back (Indep x y) h = go (nat_eq x y) refl
  where
    go : (b : Bool) → nat_eq x y ≡ b → not b ≡ true
    go true e = absurd (false≢true (sym (h x (eq-eqb x x refl)) ∙ e))
    go false e = refl

pub fork_conditions : ForkLaw
fork_conditions = (λ ts. (AreApart-are_apart ts, λ a. are_apart_from-AreApart ts [] a (λ x h. absurd (false≢true h))), λ c. (check-forth c, check-back c))
