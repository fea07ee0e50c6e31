-- A clause's own variables, each alone, before other sets.
use Rattle.std.proofs.Common.{◌≡◌, ℕ, zero, suc, Bool, true, false, ◌||◌, nat_eq, List, [], ◌∷◌, ◌++◌, refl, ap, sym, ◌∙◌}
use Rattle.ap_sharing.specs.VarSet.{just}
use Rattle.ap_sharing.specs.Sets.{listed, insert_set, join_sets, sets_of}
use Rattle.ap_sharing.proofs.Lists.{one_list, listed-join, join-append, ascending-join, ascending-none}
use Rattle.ap_patterns.specs.Entering.{with_own, own_sets}

or_assoc : (a b c : Bool) → (a || (b || c)) ≡ ((a || b) || c)
or_assoc true b c = refl
or_assoc false b c = refl

or_comm : (a b : Bool) → (a || b) ≡ (b || a)
or_comm true true = refl
or_comm true false = refl
or_comm false true = refl
or_comm false false = refl

listed-append : (s : ℕ) (ss ts : List ℕ) → listed s (ss ++ ts) ≡ (listed s ss || listed s ts)
listed-append s [] ts = refl
listed-append s (r ∷ ss) ts = ap (λ b. nat_eq s r || b) (listed-append s ss ts) ∙ or_assoc (nat_eq s r) (listed s ss) (listed s ts)

-- sets that stand first may as well be put in last
sets_of-turned : (ss ts : List ℕ) → sets_of (ss ++ ts) ≡ join_sets (sets_of ts) ss
sets_of-turned ss ts =
    one_list (sets_of (ss ++ ts)) (join_sets (sets_of ts) ss) (ascending-join [] (ss ++ ts) ascending-none) (ascending-join (sets_of ts) ss (ascending-join [] ts ascending-none)) (λ s.
    listed-join [] (ss ++ ts) s ∙ listed-append s ss ts ∙ or_comm (listed s ss) (listed s ts)
    ∙ sym (listed-join (sets_of ts) ss s ∙ ap (λ b. b || listed s ss) (listed-join [] ts s)))

with_own-joined : (n : ℕ) (ss : List ℕ) → with_own n ss ≡ join_sets ss (own_sets n)
with_own-joined zero ss = refl
with_own-joined (suc n) ss = ap (λ rs. insert_set rs (just (suc n))) (with_own-joined n ss) ∙ sym (join-append ss (own_sets n) (just (suc n) ∷ []))

pub own_sets-first : (n : ℕ) (ts : List ℕ) → sets_of (own_sets n ++ ts) ≡ with_own n (sets_of ts)
own_sets-first n ts = sets_of-turned (own_sets n) ts ∙ sym (with_own-joined n (sets_of ts))
