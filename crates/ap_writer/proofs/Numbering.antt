-- The numbers of variables as more of them are found.
use Rattle.std.proofs.Common.{◌≡◌, ℕ, ◌+◌, Bool, true, false, not, cond, ◌||◌, if◌then◌else◌, List, [], ◌∷◌, ◌++◌, nat_eq, refl, ap, sym, ◌∙◌, arith}
use Rattle.std.specs.List.{list_any, position_or_len}
use Rattle.std.proofs.lemmas.Bool.{false≢true}
use Rattle.std.proofs.lemmas.Cmp.{nat_eq_equiv}
use Rattle.ap_term.specs.Tree.{Tree, Trees, var, int, atom, node, none, more}
use Rattle.ap_term.specs.Vars.{has, add_vars, add_all_vars}
use Rattle.ap_term.specs.Blocks.{IsPrefix}
use Rattle.ap_term.specs.UpToNames.{place}
use Rattle.ap_term.proofs.Lists.{prefix-refl, prefix-trans}
use Rattle.ap_term.proofs.Found.{has-added}
use Rattle.ap_term.proofs.Solutions.{same_test}

-- ---- what was found stays in front

mutual
  pub add_vars-prefix : (t : Tree) (found : List ℕ) → IsPrefix found (add_vars t found)
  add_vars-prefix (var x) found = go (has found x)
    where
      go : (b : Bool) → IsPrefix found (if b then found else found ++ x ∷ [])
      go true = prefix-refl found
      go false = (x ∷ [], refl)
  add_vars-prefix (int z) found = prefix-refl found
  add_vars-prefix (atom a) found = prefix-refl found
  add_vars-prefix (node a ts) found = add_all_vars-prefix ts found

  pub add_all_vars-prefix : (ts : Trees) (found : List ℕ) → IsPrefix found (add_all_vars ts found)
  add_all_vars-prefix none found = prefix-refl found
  add_all_vars-prefix (more t ts) found =
      prefix-trans found (add_vars t found) (add_all_vars ts (add_vars t found)) (add_vars-prefix t found) (add_all_vars-prefix ts (add_vars t found))

-- ---- a variable keeps its number

place-append : (found more_found : List ℕ) (x : ℕ) → has found x ≡ true → place (found ++ more_found) x ≡ place found x
place-append [] ms x h = absurd (false≢true h)
place-append (y ∷ ys) ms x h = go (nat_eq y x) h (place-append ys ms x)
  where
    go : (b : Bool) → (b || has ys x) ≡ true → (has ys x ≡ true → place (ys ++ ms) x ≡ place ys x)
        → (if b then 1 else place (ys ++ ms) x + 1) ≡ (if b then 1 else place ys x + 1)
    go true h ih = refl
    go false h ih = ap (λ n. n + 1) (ih h)

pub place-prefix : (found later : List ℕ) (x : ℕ) → has found x ≡ true → IsPrefix found later → place later x ≡ place found x
place-prefix found later x h p = ap (λ l. place l x) (sym p.1) ∙ place-append found p.0 x h

-- ---- the set's own words

pub any-has : (found : List ℕ) (x : ℕ) → list_any (nat_eq x) found ≡ has found x
any-has [] x = refl
any-has (y ∷ ys) x = ap (λ b. b || list_any (nat_eq x) ys) (nat_eq_equiv.symm x y) ∙ ap (λ b. nat_eq y x || b) (any-has ys x)

pub inserted-added : (found new : List ℕ) (x : ℕ) → new ≡ (if list_any (nat_eq x) found then found else found ++ x ∷ []) → new ≡ add_vars (var x) found
inserted-added found new x h = h ∙ ap (λ b. if b then found else found ++ x ∷ []) (any-has found x)

place-push : (found : List ℕ) (x : ℕ) → place (found ++ x ∷ []) x ≡ position_or_len (nat_eq x) found + 1
place-push [] x = ap (λ b. if b then 1 else 2) (same_test x x refl)
place-push (y ∷ ys) x = ap (λ b. if b then 1 else place (ys ++ x ∷ []) x + 1) (nat_eq_equiv.symm y x) ∙ go (nat_eq x y) (place-push ys x)
  where
    go : (b : Bool) → place (ys ++ x ∷ []) x ≡ position_or_len (nat_eq x) ys + 1
        → (if b then 1 else place (ys ++ x ∷ []) x + 1) ≡ cond (not b) (1 + position_or_len (nat_eq x) ys) 0 + 1
    go true ih = refl
    go false ih = omega arith

place-added : (found : List ℕ) (x : ℕ) → place (add_vars (var x) found) x ≡ position_or_len (nat_eq x) found + 1
place-added found x = go (has found x) refl ∙ place-push found x
  where
    go : (b : Bool) → has found x ≡ b → place (if b then found else found ++ x ∷ []) x ≡ place (found ++ x ∷ []) x
    go true h = sym (place-append found (x ∷ []) x h)
    go false h = refl

-- the number of a variable that the set has put in
pub inserted-place : (found new : List ℕ) (x i : ℕ) → new ≡ (if list_any (nat_eq x) found then found else found ++ x ∷ []) → i ≡ position_or_len (nat_eq x) found
    → i + 1 ≡ place new x
inserted-place found new x i h e = ap (λ n. n + 1) e ∙ sym (place-added found x) ∙ ap (λ l. place l x) (sym (inserted-added found new x h))

-- a number that was given stays the variable's number as more are found
pub number-stays : (old new later : List ℕ) (x n : ℕ) → new ≡ add_vars (var x) old → n ≡ place new x → IsPrefix new later → n ≡ place later x
number-stays old new later x n h e p = e ∙ sym (place-prefix new later x (ap (λ l. has l x) h ∙ has-added old x) p)

pub ruleset numbers = (inserted-added, inserted-place)
