-- A copy is the same tuple up to names.
use Rattle.std.proofs.Common.{◌≡◌, ℕ, suc, ◌+◌, Bool, true, false, ◌||◌, nat_eq, cond, not, List, [], ◌∷◌, get_or, refl, sym, ap, ◌∙◌, arith}
use Rattle.std.proofs.lemmas.Bool.{false≢true}
use Rattle.std.specs.List.{list_any, position_or_len}
use Rattle.ap_term.specs.Tree.{Trees}
use Rattle.ap_term.specs.Vars.{add_all_vars}
use Rattle.ap_term.specs.Substitution.{instance_all}
use Rattle.ap_term.specs.UpToNames.{SameUpToNames}
use Rattle.ap_term.specs.Laws.{KeepsApart}
use Rattle.ap_term.proofs.Solutions.{same_var}
use Rattle.ap_term.proofs.Renamings.{renumbered-renamed}
use Rattle.ap_cells.proofs.Leaves.{stands}
use Rattle.ap_copy.specs.Copies.{KnownAll, numbered}

-- the variable of a number
at_number : (x : ℕ) (ks : List ℕ) → list_any (nat_eq x) ks ≡ true → get_or ks (position_or_len (nat_eq x) ks) 0 ≡ x
at_number x [] h = absurd (false≢true h)
at_number x (k ∷ ks) h = go (nat_eq x k) refl h (at_number x ks)
  where
    go : (b : Bool) → nat_eq x k ≡ b → (b || list_any (nat_eq x) ks) ≡ true → (list_any (nat_eq x) ks ≡ true → get_or ks (position_or_len (nat_eq x) ks) 0 ≡ x)
        → get_or (k ∷ ks) (cond (not b) (1 + position_or_len (nat_eq x) ks) 0) 0 ≡ x
    go true e p rest = sym (same_var x k e)
    go false e p rest = let s : 1 + position_or_len (nat_eq x) ks ≡ suc (position_or_len (nat_eq x) ks) = omega arith in ap (λ i. get_or (k ∷ ks) i 0) s ∙ rest p

pub numbered-same : (ks : List ℕ) (ts : Trees) → KnownAll ks ts → SameUpToNames (instance_all (numbered ks) ts) ts
numbered-same ks ts known = renumbered-renamed (λ x. position_or_len (nat_eq x) ks) ts apart
  where
    apart : KeepsApart (λ x. position_or_len (nat_eq x) ks) (add_all_vars ts [])
    apart x y h k e =
        sym (at_number x ks (known x (stands x ts h))) ∙ ap (λ i. get_or ks i 0) e ∙ at_number y ks (known y (stands y ts k))
