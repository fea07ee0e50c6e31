-- Lists that are made ascending, and what a search in one finds.
use Rattle.std.proofs.Common.{◌≡◌, ℕ, zero, suc, ◌<◌, ◌≤◌, Bool, true, false, ◌||◌, nat_eq, List, [], ◌∷◌, ◌++◌, length, get_or, Result, Ok, Err, is_ok, refl, ap, sym, ◌∙◌, subst, inl, inr, arith}
use Rattle.std.proofs.lemmas.Bool.{false≢true, eqb-true, ne_eqb, or_cases, or_left, or_right, or_from, cases_lt}
use Rattle.std.proofs.lemmas.List.Kept.{Contains-dedup_nat, Contains-from_dedup, IsStrictlySortedBy-filter}
use Rattle.std.proofs.lemmas.List.Sorted.{Contains-permutation, IsPermutation-sym, searched}
use Rattle.std.proofs.lemmas.Map.Keys.{IsStrictlyIncreasing-dedup, sorted_from_strictly_increasing, non_decreasing_from_sorted}
use Rattle.std.specs.List.{filter, flat_map, insert, dedup, Contains, HoldsAt}
use Rattle.std.specs.List.Sorted.{IsPermutation, IsSorted, IsBinarySearchResult, IsSearchInRange}
use Rattle.std.specs.Ordering.{nat_cmp, is_eq}
use Rattle.std.specs.declared.cmp.Ordering.TheVariants.{Equal}
use Rattle.ap_term.proofs.Facts.{same_bool}
use Rattle.ap_sharing.specs.Sets.{IsAscending, listed, insert_set, join_sets, sets_of, with_each, pairs}
use Rattle.ap_sharing.proofs.Elements.{same_test, union_comm}
use Rattle.ap_sharing.proofs.Lists.{Elem, Elem-listed, listed-Elem, by_cmp, equal_order, one_list, listed-join, ascending-none, ascending-insert, ascending-join, join-append, Elem-pairs, pairs-back}

-- ---- members by their places

listed-at : (s : ℕ) (ss : List ℕ) (k : ℕ) → k < length ss → get_or ss k s ≡ s → listed s ss ≡ true
listed-at s [] k h e = absurd (omega arith)
listed-at s (t ∷ ts) zero h e = or_left (nat_eq s t) (listed s ts) (ap (nat_eq s) e ∙ same_test s)
listed-at s (t ∷ ts) (suc k) h e = or_right (nat_eq s t) (listed s ts) (listed-at s ts k (omega arith) e)

pub listed-Contains : (s : ℕ) (ss : List ℕ) → Contains ss s → listed s ss ≡ true
listed-Contains s ss h = listed-at s ss h.0 h.1 h.2

pub Contains-listed : (s : ℕ) (ss : List ℕ) → listed s ss ≡ true → Contains ss s
Contains-listed s [] h = absurd (false≢true h)
Contains-listed s (t ∷ ts) h = elim (or_cases (nat_eq s t) (listed s ts) h) [ inl e ↦ (0, omega arith, sym (eqb-true s t e)) | inr e ↦ later (Contains-listed s ts e) ]
  where
    later : Contains ts s → Contains (t ∷ ts) s
    later r = (suc r.0, omega (arith, r.1), r.2)

-- ---- what a sort and a `dedup` leave

pub ascending-dedup : (ys : List ℕ) → IsSorted nat_cmp ys → IsAscending (dedup nat_eq ys)
ascending-dedup ys h = sorted_from_strictly_increasing (dedup nat_eq ys) (IsStrictlyIncreasing-dedup ys h)

pub sets_of-sorted : (xs ys : List ℕ) → IsPermutation xs ys → IsSorted nat_cmp ys → dedup nat_eq ys ≡ sets_of xs
sets_of-sorted xs ys p h = one_list (dedup nat_eq ys) (sets_of xs) (ascending-dedup ys h) (ascending-join [] xs ascending-none) (λ s.
    same_bool (listed s (dedup nat_eq ys)) (listed s xs)
    (λ k. listed-Contains s xs (Contains-permutation ys xs s (IsPermutation-sym xs ys p) (Contains-from_dedup nat_eq ys s (Contains-listed s (dedup nat_eq ys) k))))
    (λ k. listed-Contains s (dedup nat_eq ys) (Contains-dedup_nat ys s (Contains-permutation xs ys s p (Contains-listed s xs k))))
    ∙ sym (listed-join [] xs s))

sets_of-same : (ss : List ℕ) → IsAscending ss → sets_of ss ≡ ss
sets_of-same ss h = one_list (sets_of ss) ss (ascending-join [] ss ascending-none) h (λ s. listed-join [] ss s)

-- lists joined are the sets of both, one behind the other
pub join-sets_of : (ss ts : List ℕ) → IsAscending ss → sets_of (ss ++ ts) ≡ join_sets ss ts
join-sets_of ss ts h = join-append [] ss ts ∙ ap (λ r. join_sets r ts) (sets_of-same ss h)

pub ascending-filter : (p : ℕ → Bool) (ss : List ℕ) → IsAscending ss → IsAscending (filter p ss)
ascending-filter p ss h = IsStrictlySortedBy-filter nat_cmp p ss h

-- ---- what a search finds

pub found : (s : ℕ) (ss : List ℕ) (i : ℕ) → i < length ss → HoldsAt (λ y. nat_cmp y s ≡ Equal) ss i → listed s ss ≡ true
found s ss i h e = listed-at s ss i h (eqb-true (get_or ss i s) s (sym (equal_order (get_or ss i s) s) ∙ ap is_eq (e s)))

not_listed : (s : ℕ) (ss : List ℕ) → ((k : ℕ) → k < length ss → get_or ss k 0 ≡ s → ⊥) → listed s ss ≡ false
not_listed s [] h = refl
not_listed s (t ∷ ts) h = or_from (nat_eq s t) (listed s ts) (ne_eqb s t (λ e. h 0 (omega arith) (sym e))) (not_listed s ts (λ k l. h (suc k) (omega arith)))

-- where the search ends: all before is less, all from there on is greater
record Between (s : ℕ) (ss : List ℕ) (i : ℕ) : Type 0 where
  within : i ≤ length ss
  low : (k : ℕ) → k < i → get_or ss k 0 < s
  high : (k : ℕ) → i ≤ k → k < length ss → s < get_or ss k 0

between : (s : ℕ) (ss : List ℕ) (i : ℕ) → IsAscending ss → IsBinarySearchResult (λ y. nat_cmp y s) ss (Err i) → Between s ss i
between s ss i a h =
    let r = searched ss s (Err i) h (λ k l. non_decreasing_from_sorted ss a k l 0) in
    record { within = r.0; low = r.1; high = r.2 }

pub not_found : (s : ℕ) (ss : List ℕ) (i : ℕ) → IsAscending ss → IsBinarySearchResult (λ y. nat_cmp y s) ss (Err i) → listed s ss ≡ false
not_found s ss i a h = let b = between s ss i a h in not_listed s ss (λ k l e. elim (cases_lt k i) [ inl m ↦ omega (arith, b.low k m) | inr m ↦ omega (arith, b.high k m l) ])

insert_set-at : (s : ℕ) (ss : List ℕ) (i : ℕ) → Between s ss i → insert_set ss s ≡ insert ss i s
insert_set-at s [] zero b = refl
insert_set-at s [] (suc i) b = absurd (omega (arith, b.within))
insert_set-at s (x ∷ xs) zero b =
    let h : s < x = b.high 0 (omega arith) (omega arith) in
    by_cmp (λ ts. ts ≡ s ∷ x ∷ xs) s x (s ∷ x ∷ xs) (x ∷ xs) (x ∷ insert_set xs s) (λ l. refl) (λ e. absurd (omega arith)) (λ g. absurd (omega arith))
insert_set-at s (x ∷ xs) (suc i) b =
    let h : x < s = b.low 0 (omega arith) in
    by_cmp (λ ts. ts ≡ x ∷ insert xs i s) s x (s ∷ x ∷ xs) (x ∷ xs) (x ∷ insert_set xs s) (λ l. absurd (omega arith)) (λ e. absurd (omega arith))
    (λ g. ap (λ r. x ∷ r) (insert_set-at s xs i rest))
  where
    rest : Between s xs i
    rest = record { within = omega (arith, b.within); low = λ k l. b.low (suc k) (omega arith); high = λ k l m. b.high (suc k) (omega arith) (omega arith) }

pub insert_set-searched : (s : ℕ) (ss : List ℕ) (i : ℕ) → IsAscending ss → IsBinarySearchResult (λ y. nat_cmp y s) ss (Err i) → insert_set ss s ≡ insert ss i s
insert_set-searched s ss i a h = insert_set-at s ss i (between s ss i a h)

-- the same of a list that is seen in another place
pub insert_same : (s i : ℕ) (held seen new : List ℕ) → seen ≡ held → IsAscending seen → IsBinarySearchResult (λ y. nat_cmp y s) seen (Err i) → new ≡ insert held i s → new ≡ insert_set held s
insert_same s i held seen new e a h k = k ∙ ap (λ r. insert r i s) (sym e) ∙ sym (insert_set-searched s seen i a h) ∙ ap (λ r. insert_set r s) e

pub insert_set-listed : (s : ℕ) (ss : List ℕ) → IsAscending ss → listed s ss ≡ true → insert_set ss s ≡ ss
insert_set-listed s ss a h = one_list (insert_set ss s) ss (ascending-insert ss s a) a (λ r. listed-join ss (s ∷ []) r ∙ go r (nat_eq r s) refl)
  where
    go : (r : ℕ) (b : Bool) → nat_eq r s ≡ b → (listed r ss || (b || false)) ≡ listed r ss
    go r true e = or_right (listed r ss) true refl ∙ sym (ap (λ z. listed z ss) (eqb-true r s e) ∙ h)
    go r false e = same (listed r ss)
      where
        same : (p : Bool) → (p || false) ≡ p
        same true = refl
        same false = refl

pub is_found : (s : ℕ) (ss : List ℕ) (r : Result ℕ ℕ) → IsAscending ss → IsSearchInRange r (length ss) → IsBinarySearchResult (λ y. nat_cmp y s) ss r → is_ok r ≡ listed s ss
is_found s ss (Ok i) a l h = sym (found s ss i l h)
is_found s ss (Err i) a l h = sym (not_found s ss i a h)

-- ---- pairs

pub ascending-pairs : (ss ts : List ℕ) → IsAscending (pairs ss ts)
ascending-pairs ss ts = ascending-join [] (flat_map (λ s. with_each s ts) ss) ascending-none

pairs_turned : (ss ts : List ℕ) (r : ℕ) → listed r (pairs ss ts) ≡ true → listed r (pairs ts ss) ≡ true
pairs_turned ss ts r h =
    let i = pairs-back ss ts r (Elem-listed r (pairs ss ts) h) in
    listed-Elem r (pairs ts ss) (subst (λ z. Elem z (pairs ts ss)) (union_comm i.1 i.0 ∙ i.4) (Elem-pairs ts ss i.1 i.0 i.3 i.2))

-- the unions are the same from either list
pub pairs_comm : (ss ts : List ℕ) → pairs ss ts ≡ pairs ts ss
pairs_comm ss ts = one_list (pairs ss ts) (pairs ts ss) (ascending-pairs ss ts) (ascending-pairs ts ss) (λ r.
    same_bool (listed r (pairs ss ts)) (listed r (pairs ts ss)) (pairs_turned ss ts r) (pairs_turned ts ss r))
