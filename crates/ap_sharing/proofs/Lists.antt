-- Lists of sets.
use Rattle.std.proofs.Common.{◌≡◌, ℕ, suc, ◌≤◌, ◌<◌, ◌⊎◌, inl, inr, Bool, true, false, ◌||◌, nat_eq, ltb, cond, List, [], ◌∷◌, ◌++◌, map, length, refl, ap, ap₂, sym, ◌∙◌, subst, arith}
use Rattle.std.proofs.lemmas.Bool.{false≢true, eqb-true, ne_eqb, ltb-true, ltb-false, lt-ltb, or_cases, or_left, or_right, or_from, eqb-false}
use Rattle.std.specs.List.{filter, flat_map, AllByRecursion}
use Rattle.std.specs.List.Sorted.{IsStrictlySortedBy}
use Rattle.std.specs.declared.cmp.Ordering.TheVariants.{Less, Equal, Greater}
use Rattle.std.specs.Ordering.{nat_cmp, match_ordering, is_eq}
use Rattle.ap_term.proofs.Facts.{same_bool, cmp_less}
use Rattle.ap_sharing.specs.VarSet.{has, union}
use Rattle.ap_sharing.specs.Sets.{In, Is, IsAscending, listed, insert_set, join_sets, all_of, with_each, pairs, grown, grown_all, too_many}
use Rattle.ap_sharing.proofs.Elements.{same_test, clash, has-union}

-- ---- membership

abbrev pub Elem : ℕ → List ℕ → Type 0
Elem s ss = In (λ r. s ≡ r) ss

pub Elem-listed : (s : ℕ) (ss : List ℕ) → listed s ss ≡ true → Elem s ss
Elem-listed s [] h = absurd (false≢true h)
Elem-listed s (t ∷ ts) h = elim (or_cases (nat_eq s t) (listed s ts) h) [ inl e ↦ inl (eqb-true s t e) | inr e ↦ inr (Elem-listed s ts e) ]

pub listed-Elem : (s : ℕ) (ss : List ℕ) → Elem s ss → listed s ss ≡ true
listed-Elem s [] h = absurd h
listed-Elem s (t ∷ ts) (inl e) = or_left (nat_eq s t) (listed s ts) (ap (nat_eq s) (sym e) ∙ same_test s)
listed-Elem s (t ∷ ts) (inr h) = or_right (nat_eq s t) (listed s ts) (listed-Elem s ts h)

pub In-weaken : (P Q : ℕ → Type 0) (ss : List ℕ) → ((s : ℕ) → P s → Q s) → In P ss → In Q ss
In-weaken P Q [] e h = absurd h
In-weaken P Q (s ∷ ss) e (inl h) = inl (e s h)
In-weaken P Q (s ∷ ss) e (inr h) = inr (In-weaken P Q ss e h)

pub In-some : (P : ℕ → Type 0) (ss : List ℕ) → In P ss → (s : ℕ) × P s × Elem s ss
In-some P [] h = absurd h
In-some P (s ∷ ss) (inl h) = (s, h, inl refl)
In-some P (s ∷ ss) (inr h) = let r = In-some P ss h in (r.0, r.1, inr r.2)

pub In-elem : (P : ℕ → Type 0) (ss : List ℕ) (s : ℕ) → Elem s ss → P s → In P ss
In-elem P ss s h k = In-weaken (λ r. s ≡ r) P ss (λ r e. subst P e k) h

pub In-filter : (P : ℕ → Type 0) (p : ℕ → Bool) (ss : List ℕ) → ((s : ℕ) → P s → p s ≡ true) → In P ss → In P (filter p ss)
In-filter P p [] e h = absurd h
In-filter P p (s ∷ ss) e (inl h) = go (p s) (e s h)
  where
    go : (b : Bool) → b ≡ true → In P (cond b (s ∷ filter p ss) (filter p ss))
    go true k = inl h
    go false k = absurd (false≢true k)
In-filter P p (s ∷ ss) e (inr h) = go (p s) (In-filter P p ss e h)
  where
    go : (b : Bool) → In P (filter p ss) → In P (cond b (s ∷ filter p ss) (filter p ss))
    go true k = inr k
    go false k = k

pub In-map : (P Q : ℕ → Type 0) (g : ℕ → ℕ) (ss : List ℕ) → ((s : ℕ) → P s → Q (g s)) → In P ss → In Q (map g ss)
In-map P Q g [] e h = absurd h
In-map P Q g (s ∷ ss) e (inl h) = inl (e s h)
In-map P Q g (s ∷ ss) e (inr h) = inr (In-map P Q g ss e h)

pub Elem-map : (g : ℕ → ℕ) (a : ℕ) (ss : List ℕ) → Elem a (map g ss) → (s : ℕ) × Elem s ss × (g s ≡ a)
Elem-map g a [] h = absurd h
Elem-map g a (s ∷ ss) (inl e) = (s, inl refl, sym e)
Elem-map g a (s ∷ ss) (inr h) = let r = Elem-map g a ss h in (r.0, inr r.1, r.2)

In-append_left : (P : ℕ → Type 0) (ss ts : List ℕ) → In P ss → In P (ss ++ ts)
In-append_left P [] ts h = absurd h
In-append_left P (s ∷ ss) ts (inl h) = inl h
In-append_left P (s ∷ ss) ts (inr h) = inr (In-append_left P ss ts h)

In-append_right : (P : ℕ → Type 0) (ss ts : List ℕ) → In P ts → In P (ss ++ ts)
In-append_right P [] ts h = h
In-append_right P (s ∷ ss) ts h = inr (In-append_right P ss ts h)

In-append_cases : (P : ℕ → Type 0) (ss ts : List ℕ) → In P (ss ++ ts) → In P ss ⊎ In P ts
In-append_cases P [] ts h = inr h
In-append_cases P (s ∷ ss) ts (inl h) = inl (inl h)
In-append_cases P (s ∷ ss) ts (inr h) = elim (In-append_cases P ss ts h) [ inl k ↦ inl (inr k) | inr k ↦ inr k ]

pub listed-filter : (p : ℕ → Bool) (s : ℕ) (ss : List ℕ) → listed s (filter p ss) ≡ true → p s ≡ true
listed-filter p s [] h = absurd (false≢true h)
listed-filter p s (t ∷ ts) h = go (listed-filter p s ts) (p t) refl h
  where
    go : (listed s (filter p ts) ≡ true → p s ≡ true) → (b : Bool) → p t ≡ b → listed s (cond b (t ∷ filter p ts) (filter p ts)) ≡ true → p s ≡ true
    go ih true e k = elim (or_cases (nat_eq s t) (listed s (filter p ts)) k) [ inl i ↦ ap p (eqb-true s t i) ∙ e | inr i ↦ ih i ]
    go ih false e k = ih k

-- ---- a set that is put in

pub by_cmp : (P : List ℕ → Type 0) (k x : ℕ) (ks xs ys : List ℕ) → (k < x → P ks) → (k ≡ x → P xs) → (x < k → P ys) → P (match_ordering (nat_cmp k x) ks xs ys)
by_cmp P k x ks xs ys a b c = go (ltb k x) refl (nat_eq k x) refl
  where
    go : (l : Bool) → ltb k x ≡ l → (e : Bool) → nat_eq k x ≡ e → P (match_ordering (cond l Less (cond e Equal Greater)) ks xs ys)
    go true h e i = a (ltb-true k x h)
    go false h true i = b (eqb-true k x i)
    go false h false i = let le : x ≤ k = ltb-false k x h in let ne : k ≡ x → ⊥ = eqb-false k x i in c (omega (arith, le, ne))

pub In-put : (P : ℕ → Type 0) (ss : List ℕ) (k : ℕ) → P k → In P (insert_set ss k)
In-put P [] k h = inl h
In-put P (x ∷ xs) k h = by_cmp (In P) k x (k ∷ x ∷ xs) (x ∷ xs) (x ∷ insert_set xs k) (λ l. inl h) (λ e. inl (subst P e h)) (λ g. inr (In-put P xs k h))

pub In-stays : (P : ℕ → Type 0) (ss : List ℕ) (k : ℕ) → In P ss → In P (insert_set ss k)
In-stays P [] k h = absurd h
In-stays P (x ∷ xs) k (inl h) = by_cmp (In P) k x (k ∷ x ∷ xs) (x ∷ xs) (x ∷ insert_set xs k) (λ l. inr (inl h)) (λ e. inl h) (λ g. inl h)
In-stays P (x ∷ xs) k (inr h) = by_cmp (In P) k x (k ∷ x ∷ xs) (x ∷ xs) (x ∷ insert_set xs k) (λ l. inr (inr h)) (λ e. inr h) (λ g. inr (In-stays P xs k h))

pub In-insert_cases : (P : ℕ → Type 0) (ss : List ℕ) (k : ℕ) → In P (insert_set ss k) → P k ⊎ In P ss
In-insert_cases P [] k (inl h) = inl h
In-insert_cases P [] k (inr h) = absurd h
In-insert_cases P (x ∷ xs) k h =
    by_cmp (λ ts. In P ts → P k ⊎ In P (x ∷ xs)) k x (k ∷ x ∷ xs) (x ∷ xs) (x ∷ insert_set xs k) (λ l. first) (λ e i. inr i) (λ g. later (In-insert_cases P xs k)) h
  where
    first : In P (k ∷ x ∷ xs) → P k ⊎ In P (x ∷ xs)
    first (inl i) = inl i
    first (inr i) = inr i

    later : (In P (insert_set xs k) → P k ⊎ In P xs) → In P (x ∷ insert_set xs k) → P k ⊎ In P (x ∷ xs)
    later ih (inl i) = inr (inl i)
    later ih (inr i) = elim (ih i) [ inl j ↦ inl j | inr j ↦ inr (inr j) ]

pub In-join_left : (P : ℕ → Type 0) (ss ts : List ℕ) → In P ss → In P (join_sets ss ts)
In-join_left P ss [] h = h
In-join_left P ss (t ∷ ts) h = In-join_left P (insert_set ss t) ts (In-stays P ss t h)

pub In-join_right : (P : ℕ → Type 0) (ss ts : List ℕ) → In P ts → In P (join_sets ss ts)
In-join_right P ss [] h = absurd h
In-join_right P ss (t ∷ ts) (inl h) = In-join_left P (insert_set ss t) ts (In-put P ss t h)
In-join_right P ss (t ∷ ts) (inr h) = In-join_right P (insert_set ss t) ts h

pub In-join_cases : (P : ℕ → Type 0) (ss ts : List ℕ) → In P (join_sets ss ts) → In P ss ⊎ In P ts
In-join_cases P ss [] h = inl h
In-join_cases P ss (t ∷ ts) h =
    elim (In-join_cases P (insert_set ss t) ts h) [
      | inl k ↦ elim (In-insert_cases P ss t k) [ inl j ↦ inr (inl j) | inr j ↦ inl j ]
      | inr k ↦ inr (inr k)
    ]

pub listed-join : (ss ts : List ℕ) (s : ℕ) → listed s (join_sets ss ts) ≡ (listed s ss || listed s ts)
listed-join ss ts s =
    same_bool (listed s (join_sets ss ts)) (listed s ss || listed s ts)
    (λ h. elim (In-join_cases (λ r. s ≡ r) ss ts (Elem-listed s (join_sets ss ts) h))
    [ inl k ↦ or_left (listed s ss) (listed s ts) (listed-Elem s ss k) | inr k ↦ or_right (listed s ss) (listed s ts) (listed-Elem s ts k) ])
    (λ h. elim (or_cases (listed s ss) (listed s ts) h) [
      | inl k ↦ listed-Elem s (join_sets ss ts) (In-join_left (λ r. s ≡ r) ss ts (Elem-listed s ss k))
      | inr k ↦ listed-Elem s (join_sets ss ts) (In-join_right (λ r. s ≡ r) ss ts (Elem-listed s ts k))
    ])

-- ---- what a search by the order finds

pub equal_order : (s k : ℕ) → is_eq (nat_cmp s k) ≡ nat_eq s k
equal_order s k = go (ltb s k) refl (nat_eq s k) refl
  where
    go : (l : Bool) → ltb s k ≡ l → (e : Bool) → nat_eq s k ≡ e → is_eq (cond l Less (cond e Equal Greater)) ≡ e
    go true h true i = let a = ltb-true s k h in let b = eqb-true s k i in absurd (omega arith)
    go true h false i = refl
    go false h true i = refl
    go false h false i = refl

-- ---- lengths

length-insert : (ss : List ℕ) (k : ℕ) → length ss ≤ length (insert_set ss k)
length-insert [] k = omega arith
length-insert (x ∷ xs) k =
    by_cmp (λ ts. suc (length xs) ≤ length ts) k x (k ∷ x ∷ xs) (x ∷ xs) (x ∷ insert_set xs k) (λ l. omega arith) (λ e. omega arith) (λ g. omega (arith, length-insert xs k))

pub length-join : (ss ts : List ℕ) → length ss ≤ length (join_sets ss ts)
length-join ss [] = omega arith
length-join ss (t ∷ ts) = omega (arith, length-insert ss t, length-join (insert_set ss t) ts)

pub length-grown_all : (ss ts : List ℕ) → length ss ≤ length (grown_all ss ts)
length-grown_all ss [] = omega arith
length-grown_all ss (t ∷ ts) = omega (arith, length-insert ss t, length-join (insert_set ss t) (with_each t ss), length-grown_all (grown ss t) ts)

pub too_many-longer : (ss ts : List ℕ) → length ss ≤ length ts → too_many ss ≡ true → too_many ts ≡ true
too_many-longer ss ts h k = let l = ltb-true 4096 (length ss) k in lt-ltb 4096 (length ts) (omega arith)

pub too_many-join : (ss ts : List ℕ) → too_many ss ≡ true → too_many (join_sets ss ts) ≡ true
too_many-join ss ts h = too_many-longer ss (join_sets ss ts) (length-join ss ts) h

pub too_many-grown_all : (ss ts : List ℕ) → too_many ss ≡ true → too_many (grown_all ss ts) ≡ true
too_many-grown_all ss ts h = too_many-longer ss (grown_all ss ts) (length-grown_all ss ts) h

pub join-append : (ss ts rs : List ℕ) → join_sets ss (ts ++ rs) ≡ join_sets (join_sets ss ts) rs
join-append ss [] rs = refl
join-append ss (t ∷ ts) rs = join-append (insert_set ss t) ts rs

-- ---- order

abbrev Below : ℕ → List ℕ → Type 0
Below x ys = AllByRecursion (λ y. nat_cmp x y ≡ Less) ys

is_below : (x y : ℕ) → nat_cmp x y ≡ Less → x < y
is_below x y h = go (ltb x y) refl (nat_eq x y) h
  where
    go : (l : Bool) → ltb x y ≡ l → (e : Bool) → cond l Less (cond e Equal Greater) ≡ Less → x < y
    go true i e k = ltb-true x y i
    go false i true k = cc
    go false i false k = cc

below_all : (x y : ℕ) (ys : List ℕ) → x < y → Below y ys → Below x ys
below_all x y [] h b = tt
below_all x y (z ∷ ys) h b = let l = is_below y z b.0 in (cmp_less x z (omega arith), below_all x y ys h b.1)

All-insert : (P : ℕ → Type 0) (ss : List ℕ) (k : ℕ) → P k → AllByRecursion P ss → AllByRecursion P (insert_set ss k)
All-insert P [] k p h = (p, tt)
All-insert P (x ∷ xs) k p h =
    by_cmp (AllByRecursion P) k x (k ∷ x ∷ xs) (x ∷ xs) (x ∷ insert_set xs k) (λ l. (p, h)) (λ e. h) (λ g. (h.0, All-insert P xs k p h.1))

pub ascending-insert : (ss : List ℕ) (k : ℕ) → IsAscending ss → IsAscending (insert_set ss k)
unfolding IsStrictlySortedBy
ascending-insert [] k h = (tt, tt)
ascending-insert (x ∷ xs) k h =
    by_cmp IsAscending k x (k ∷ x ∷ xs) (x ∷ xs) (x ∷ insert_set xs k)
    (λ l. ((cmp_less k x l, below_all k x xs l h.0), h)) (λ e. h) (λ g. (All-insert (λ y. nat_cmp x y ≡ Less) xs k (cmp_less x k g) h.0, ascending-insert xs k h.1))

pub ascending-join : (ss ts : List ℕ) → IsAscending ss → IsAscending (join_sets ss ts)
ascending-join ss [] h = h
ascending-join ss (t ∷ ts) h = ascending-join (insert_set ss t) ts (ascending-insert ss t h)

pub ascending-none : IsAscending []
unfolding IsStrictlySortedBy
ascending-none = tt

not_below : (s x : ℕ) (ys : List ℕ) → s ≤ x → Below x ys → listed s ys ≡ false
not_below s x [] h b = refl
not_below s x (y ∷ ys) h b = let l = is_below x y b.0 in or_from (nat_eq s y) (listed s ys) (ne_eqb s y (omega arith)) (not_below s x ys h b.1)

-- ascending lists with the same members are one
pub one_list : (ss ts : List ℕ) → IsAscending ss → IsAscending ts → ((s : ℕ) → listed s ss ≡ listed s ts) → ss ≡ ts
unfolding IsStrictlySortedBy
one_list [] [] a b h = refl
one_list [] (t ∷ ts) a b h = absurd (false≢true (h t ∙ or_left (nat_eq t t) (listed t ts) (same_test t)))
one_list (s ∷ ss) [] a b h = absurd (false≢true (sym (h s) ∙ or_left (nat_eq s s) (listed s ss) (same_test s)))
one_list (s ∷ ss) (t ∷ ts) a b h = ap₂ (λ x xs. x ∷ xs) heads (one_list ss ts a.1 b.1 tails)
  where
    low : (x y : ℕ) (xs ys : List ℕ) → Below y ys → listed x (x ∷ xs) ≡ listed x (y ∷ ys) → y ≤ x
    low x y xs ys g e = go (ltb x y) refl
      where
        go : (l : Bool) → ltb x y ≡ l → y ≤ x
        go true i =
            let k : x < y = ltb-true x y i in
            absurd (clash (listed x (y ∷ ys)) (sym e ∙ or_left (nat_eq x x) (listed x xs) (same_test x)) (or_from (nat_eq x y) (listed x ys) (ne_eqb x y (omega arith)) (not_below x y ys (omega arith) g)))
        go false i = ltb-false x y i

    heads : s ≡ t
    heads = omega (arith, low s t ss ts b.0 (h s), low t s ts ss a.0 (sym (h t)))

    tails : (r : ℕ) → listed r ss ≡ listed r ts
    tails r = go (nat_eq r s) refl
      where
        go : (e : Bool) → nat_eq r s ≡ e → listed r ss ≡ listed r ts
        go true e =
            let i : r ≡ s = eqb-true r s e in
            not_below r s ss (omega arith) a.0 ∙ sym (not_below r t ts (omega (arith, heads)) b.0)
        go false e =
            sym (ap (λ q. q || listed r ss) e) ∙ h r ∙ ap (λ q. q || listed r ts) (ap (nat_eq r) (sym heads) ∙ e)

-- ---- the union of all

pub In-all_of : (p : ℕ → Bool) (ss : List ℕ) → In (λ s. Is s p) ss → (x : ℕ) → p x ≡ true → has (all_of ss) x ≡ true
In-all_of p [] h x k = absurd h
In-all_of p (s ∷ ss) (inl h) x k = has-union s (all_of ss) x ∙ or_left (has s x) (has (all_of ss) x) (h x ∙ k)
In-all_of p (s ∷ ss) (inr h) x k = has-union s (all_of ss) x ∙ or_right (has s x) (has (all_of ss) x) (In-all_of p ss h x k)

-- ---- pairs

pub Is-same : (s : ℕ) (p q : ℕ → Bool) → ((x : ℕ) → p x ≡ q x) → Is s p → Is s q
Is-same s p q e h = λ x. h x ∙ e x

pub Is-union : (s t : ℕ) (p q : ℕ → Bool) → Is s p → Is t q → Is (union s t) (λ x. p x || q x)
Is-union s t p q h k = λ x. has-union s t x ∙ ap₂ (λ a b. a || b) (h x) (k x)

flat_there : (g : ℕ → List ℕ) (s a : ℕ) (ss : List ℕ) → Elem s ss → Elem a (g s) → Elem a (flat_map g ss)
flat_there g s a [] h k = absurd h
flat_there g s a (r ∷ ss) (inl e) k = In-append_left (λ z. a ≡ z) (g r) (flat_map g ss) (subst (λ z. Elem a (g z)) e k)
flat_there g s a (r ∷ ss) (inr h) k = In-append_right (λ z. a ≡ z) (g r) (flat_map g ss) (flat_there g s a ss h k)

flat_back : (g : ℕ → List ℕ) (a : ℕ) (ss : List ℕ) → Elem a (flat_map g ss) → (s : ℕ) × Elem s ss × Elem a (g s)
flat_back g a [] h = absurd h
flat_back g a (r ∷ ss) h =
    elim (In-append_cases (λ z. a ≡ z) (g r) (flat_map g ss) h) [
      | inl k ↦ (r, inl refl, k)
      | inr k ↦ (let i = flat_back g a ss k in (i.0, inr i.1, i.2))
    ]

pub Elem-pairs : (ss ts : List ℕ) (s t : ℕ) → Elem s ss → Elem t ts → Elem (union s t) (pairs ss ts)
Elem-pairs ss ts s t h k =
    In-join_right (λ z. union s t ≡ z) [] (flat_map (λ r. with_each r ts) ss)
    (flat_there (λ r. with_each r ts) s (union s t) ss h (In-map (λ r. t ≡ r) (λ z. union s t ≡ z) (union s) ts (λ r e. ap (union s) e) k))

pub pairs-back : (ss ts : List ℕ) (a : ℕ) → Elem a (pairs ss ts) → (s : ℕ) × (t : ℕ) × Elem s ss × Elem t ts × (union s t ≡ a)
pairs-back ss ts a h =
    elim (In-join_cases (λ z. a ≡ z) [] (flat_map (λ r. with_each r ts) ss) h) [
      | inl k ↦ absurd k
      | inr k ↦ (let i = flat_back (λ r. with_each r ts) a ss k in let j = Elem-map (union i.0) a ts i.2 in (i.0, j.0, i.1, j.1, j.2))
    ]

pub In-pairs : (p q : ℕ → Bool) (ss ts : List ℕ) → In (λ s. Is s p) ss → In (λ t. Is t q) ts → In (λ r. Is r (λ x. p x || q x)) (pairs ss ts)
In-pairs p q ss ts h k =
    let i = In-some (λ s. Is s p) ss h in
    let j = In-some (λ t. Is t q) ts k in
    In-elem (λ r. Is r (λ x. p x || q x)) (pairs ss ts) (union i.0 j.0) (Elem-pairs ss ts i.0 j.0 i.2 j.2) (Is-union i.0 j.0 p q i.1 j.1)
