-- Lists of any elements: facts that the library has not.
use Rattle.std.proofs.Common.{◌≡◌, ℕ, zero, suc, ◌+◌, ◌<◌, Bool, true, false, ◌&&◌, ◌==◌, if◌then◌else◌, List, [], ◌∷◌, ◌++◌, length, drop, get_or, slice_get, Some, None, refl, ap, sym, ◌∙◌, arith}
use Rattle.std.specs.List.{filter, list_all}
use Rattle.std.proofs.lemmas.Bool.{and_parts, and_from}
use Rattle.std.proofs.lemmas.Bool.Decides.{Decides-eqb}
use Rattle.std.proofs.lemmas.List.{append-nil, append_assoc, drop_more}
use Rattle.ap_term.specs.Blocks.{IsPrefix}
use Rattle.ap_term.specs.Lists.{Key, is_key}

-- ---- what is in front

pub first_is : {A : Type 0} {x y : A} {xs ys : List A} → x ∷ xs ≡ y ∷ ys → x ≡ y
first_is e = cc

pub not_nil : {A : Type 0} {x : A} {xs : List A} → x ∷ xs ≡ [] → ⊥
not_nil e = cc

pub some_first : {A : Type 0} (xs : List A) → 0 < length xs → (x : A) × (ys : List A) × (xs ≡ x ∷ ys)
some_first [] l = absurd (omega arith)
some_first (x ∷ xs) l = (x, xs, refl)

pub prefix-refl : {A : Type 0} (xs : List A) → IsPrefix xs xs
prefix-refl xs = ([], append-nil xs)

pub prefix-trans : {A : Type 0} (xs ys zs : List A) → IsPrefix xs ys → IsPrefix ys zs → IsPrefix xs zs
prefix-trans xs ys zs h k = (h.0 ++ k.0, sym (append_assoc xs h.0 k.0) ∙ ap (λ us. us ++ k.0) h.1 ∙ k.1)

-- ---- a push

pub nil-push : {A : Type 0} (xs : List A) (x : A) → [] ≡ xs ++ x ∷ [] → ⊥
nil-push [] x e = cc
nil-push (y ∷ xs) x e = cc

pub filter-push : {A : Type 0} (p : A → Bool) (xs : List A) (x : A) → filter p (xs ++ x ∷ []) ≡ (if p x then filter p xs ++ x ∷ [] else filter p xs)
filter-push p [] x = refl
filter-push p (y ∷ xs) x = go (p y) (p x) (filter-push p xs x)
  where
    go : (b c : Bool) → filter p (xs ++ x ∷ []) ≡ (if c then filter p xs ++ x ∷ [] else filter p xs)
        → (if b then y ∷ filter p (xs ++ x ∷ []) else filter p (xs ++ x ∷ [])) ≡ (if c then (if b then y ∷ filter p xs else filter p xs) ++ x ∷ [] else (if b then y ∷ filter p xs else filter p xs))
    go true true e = ap (λ l. y ∷ l) e
    go true false e = ap (λ l. y ∷ l) e
    go false true e = e
    go false false e = e

pub list_all-append : {A : Type 0} (p : A → Bool) (xs ys : List A) → list_all p xs ≡ true → list_all p ys ≡ true → list_all p (xs ++ ys) ≡ true
list_all-append p [] ys h k = k
list_all-append p (x ∷ xs) ys h k =
    and_from (p x) (list_all p (xs ++ ys)) (and_parts (p x) (list_all p xs) h).0 (list_all-append p xs ys (and_parts (p x) (list_all p xs) h).1 k)

-- ---- an element at a place

pub slice_get-push : {A : Type 0} (xs : List A) (x : A) → slice_get (xs ++ x ∷ []) (length xs) ≡ Some x
slice_get-push [] x = refl
slice_get-push (z ∷ xs) x = slice_get-push xs x

pub slice_get-inside : {A : Type 0} (xs : List A) (n : ℕ) → n < length xs → slice_get xs n ≡ None → ⊥
slice_get-inside [] n l e = absurd (omega arith)
slice_get-inside (x ∷ xs) zero l e = cc
slice_get-inside (x ∷ xs) (suc n) l e = slice_get-inside xs n (omega arith) e

pub drop-here : {A : Type 0} (xs : List A) (n : ℕ) (x : A) → slice_get xs n ≡ Some x → drop n xs ≡ x ∷ drop (n + 1) xs
drop-here [] n x e = cc
drop-here (y ∷ ys) zero x e = let q : y ≡ x = cc in ap (λ v. v ∷ ys) q
drop-here (y ∷ ys) (suc n) x e = drop-here ys n x e ∙ ap (λ m. x ∷ drop m (y ∷ ys)) (let q : suc (n + 1) ≡ suc n + 1 = omega arith in q)

pub drop-past : {A : Type 0} (xs : List A) (n : ℕ) → slice_get xs n ≡ None → drop n xs ≡ []
drop-past [] zero e = refl
drop-past [] (suc n) e = refl
drop-past (x ∷ xs) zero e = cc
drop-past (x ∷ xs) (suc n) e = drop-past xs n e

pub drop-read : {A : Type 0} (xs : List A) (n : ℕ) (x : A) → n < length xs → x ≡ get_or xs n x → drop n xs ≡ x ∷ drop (n + 1) xs
drop-read xs n x l e = drop_more xs n x l ∙ ap (λ y. y ∷ drop (n + 1) xs) (sym e)

-- ---- names with arities

pub same_key : (k l : Key) → is_key k l ≡ true → k ≡ l
same_key k l e =
    let b = and_parts (k.0 == l.0) (k.1 == l.1) e in
    let f : k.0 ≡ l.0 = (Decides-eqb k.0 l.0).0 b.0 in
    let g : k.1 ≡ l.1 = (Decides-eqb k.1 l.1).0 b.1 in
    ap (λ n. (n, k.1)) f ∙ ap (λ n. (l.0, n)) g

pub own_key : (k : Key) → is_key k k ≡ true
own_key k = ap (λ b. b && (k.1 == k.1)) ((Decides-eqb k.0 k.0).1 refl) ∙ (Decides-eqb k.1 k.1).1 refl
