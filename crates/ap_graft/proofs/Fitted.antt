-- An answer that is fitted in for a goal, by maps.
use Rattle.std.proofs.Common.{◌≡◌, ℕ, ◌+◌, ◌-◌, ◌<◌, ◌≤◌, Bool, true, false, cond, nat_lt, if◌then◌else◌, refl, ap, sym, ◌∙◌, subst, arith}
use Rattle.std.proofs.lemmas.Bool.{lt-ltb, le-ltb, ltb-true, ltb-false}
use Rattle.ap_term.specs.Tuples.{arguments}
use Rattle.ap_term.specs.Tree.{Tree, Trees, var}
use Rattle.ap_term.specs.Vars.{occurs_all, LocalAll}
use Rattle.ap_term.specs.Substitution.{instance, instance_all}
use Rattle.ap_term.proofs.Copies.{instance_twice, instance_all_twice}
use Rattle.ap_term.proofs.Solutions.{instance_agree, instance_all_agree}
use Rattle.ap_term.proofs.Locals.{Local-occurs, LocalAll-occurs_all}
use Rattle.ap_laws.specs.Graft.{lifted, lifted_var, fitted, IsOwn}
use Rattle.ap_laws.proofs.Graft.{LocalAll-at, fitted-value}
use Rattle.ap_laws.proofs.Unifiers.{instance_all-at}

module _ (g : Tree) (b n m : ℕ) (U : Trees) (small : b ≤ n) (s : ℕ → Tree) (is : U ≡ instance_all s (arguments g)) (local : LocalAll (IsOwn g b m) U) where
  -- an answer's variable in the state with the answer is one of its own, or new
  forth-at : (k : ℕ → Tree) (x : ℕ) → occurs_all x (arguments g) ≡ true → instance k (fitted g b n U x) ≡ instance (λ y. k (lifted b n y)) (s x)
  forth-at k x o =
      ap (instance k) (fitted-value g b n s U is x ∙ ap (λ c. cond c (instance (lifted_var b n) (s x)) (var x)) o) ∙ instance_twice (lifted_var b n) k (s x)

  -- with the answer fitted in, the goal's arguments are an instance of the answer
  pub met-fitted : (k : ℕ → Tree) → instance_all (λ x. instance k (fitted g b n U x)) (arguments g) ≡ instance_all (λ y. k (lifted b n y)) U
  met-fitted k =
      instance_all_agree (λ x. instance k (fitted g b n U x)) (λ x. instance (λ y. k (lifted b n y)) (s x)) (arguments g) (forth-at k)
      ∙ sym (instance_all_twice s (λ y. k (lifted b n y)) (arguments g)) ∙ ap (instance_all (λ y. k (lifted b n y))) (sym is)

  -- the map that gives the state's variables what f gives them, and the answer's what h gives them
  pub both : (ℕ → Tree) → (ℕ → Tree) → ℕ → Tree
  both f h y = if nat_lt y n then cond (occurs_all y (arguments g)) (h y) (f y) else h ((y - n) + b)

  both-below : (f h : ℕ → Tree) (y : ℕ) → y < n → both f h y ≡ cond (occurs_all y (arguments g)) (h y) (f y)
  unfolding both
  both-below f h y l = ap (λ c. if c then cond (occurs_all y (arguments g)) (h y) (f y) else h ((y - n) + b)) (lt-ltb y n l)

  both-above : (f h : ℕ → Tree) (y : ℕ) → n ≤ y → both f h y ≡ h ((y - n) + b)
  unfolding both
  both-above f h y l = ap (λ c. if c then cond (occurs_all y (arguments g)) (h y) (f y) else h ((y - n) + b)) (le-ltb y n l)

  at-lifted : (f h : ℕ → Tree) (y : ℕ) → IsOwn g b m y → both f h (lifted b n y) ≡ h y
  at-lifted f h y o = go (nat_lt y b) refl
    where
      go : (c : Bool) → nat_lt y b ≡ c → both f h (if c then y else n + (y - b)) ≡ h y
      go true e =
          let l : y < b = ltb-true y b e in both-below f h y (omega (arith, l, small)) ∙ ap (λ c. cond c (h y) (f y)) (o.1 l)
      go false e =
          let l : b ≤ y = ltb-false y b e in
          let w : (n + (y - b) - n) + b ≡ y = omega (arith, l) in
          both-above f h (n + (y - b)) (omega arith) ∙ ap h w

  module _ (f h : ℕ → Tree) (meet : instance_all f (arguments g) ≡ instance_all h U) where
    on_arguments : (x : ℕ) → occurs_all x (arguments g) ≡ true → f x ≡ instance h (s x)
    on_arguments x o = instance_all-at f (λ y. instance h (s y)) (arguments g) (meet ∙ ap (instance_all h) is ∙ instance_all_twice s h (arguments g)) x o

    agrees : (x : ℕ) → x < n → instance (both f h) (fitted g b n U x) ≡ f x
    agrees x l = go (occurs_all x (arguments g)) refl
      where
        go : (c : Bool) → occurs_all x (arguments g) ≡ c → instance (both f h) (fitted g b n U x) ≡ f x
        go false e =
            ap (instance (both f h)) (fitted-value g b n s U is x ∙ ap (λ c. cond c (instance (lifted_var b n) (s x)) (var x)) e)
            ∙ both-below f h x l ∙ ap (λ c. cond c (h x) (f x)) e
        go true e =
            forth-at (both f h) x e
            ∙ instance_agree (λ y. both f h (lifted b n y)) h (s x)
            (λ y o. at-lifted f h y (Local-occurs (IsOwn g b m) (s x) (LocalAll-at (IsOwn g b m) s (arguments g) (subst (LocalAll (IsOwn g b m)) is local) x e) y o))
            ∙ sym (on_arguments x e)

    -- what has its arguments so is an instance of what has the answer fitted in
    pub instances : (K : Trees) → LocalAll (λ x. x < n) K → instance_all f K ≡ instance_all (both f h) (instance_all (fitted g b n U) K)
    instances K below =
        sym (instance_all_twice (fitted g b n U) (both f h) K
        ∙ instance_all_agree (λ x. instance (both f h) (fitted g b n U x)) f K (λ x o. agrees x (LocalAll-occurs_all (λ y. y < n) K below x o)))
