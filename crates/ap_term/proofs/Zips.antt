-- Lists related place by place, and what holds of each element.
use Rattle.std.proofs.Common.{◌≡◌, Bool, true, false, if◌then◌else◌, List, [], ◌∷◌, ◌++◌, map, length, refl, arith}
use Rattle.std.specs.List.{flat_map, AllZip, AllByRecursion}

pub AllZip-append : {A B : Type 0} (R : A → B → Type 0) (xs us : List A) (ys vs : List B) → AllZip R xs ys → AllZip R us vs → AllZip R (xs ++ us) (ys ++ vs)
AllZip-append R [] us [] vs h k = k
AllZip-append R (x ∷ xs) us (y ∷ ys) vs h k = (h.0, AllZip-append R xs us ys vs h.1 k)
AllZip-append R [] us (_ ∷ _) vs h k = absurd h
AllZip-append R (_ ∷ _) us [] vs h k = absurd h

pub AllZip-push : {A B : Type 0} (R : A → B → Type 0) (xs : List A) (ys : List B) (x : A) (y : B) → AllZip R xs ys → R x y → AllZip R (xs ++ x ∷ []) (ys ++ y ∷ [])
AllZip-push R xs ys x y h r = AllZip-append R xs (x ∷ []) ys (y ∷ []) h (r, tt)

pub AllZip-map : {A B C D : Type 0} (R : A → B → Type 0) (S : C → D → Type 0) (f : A → C) (g : B → D) → ((x : A) (y : B) → R x y → S (f x) (g y)) → (xs : List A) (ys : List B)
    → AllZip R xs ys → AllZip S (map f xs) (map g ys)
AllZip-map R S f g e [] [] h = tt
AllZip-map R S f g e (x ∷ xs) (y ∷ ys) h = (e x y h.0, AllZip-map R S f g e xs ys h.1)
AllZip-map R S f g e [] (_ ∷ _) h = absurd h
AllZip-map R S f g e (_ ∷ _) [] h = absurd h

pub AllZip-flat_map : {A B C D : Type 0} (R : A → B → Type 0) (S : C → D → Type 0) (f : A → List C) (g : B → List D) → ((x : A) (y : B) → R x y → AllZip S (f x) (g y)) → (xs : List A) (ys : List B)
    → AllZip R xs ys → AllZip S (flat_map f xs) (flat_map g ys)
AllZip-flat_map R S f g e [] [] h = tt
AllZip-flat_map R S f g e (x ∷ xs) (y ∷ ys) h = AllZip-append S (f x) (flat_map f xs) (g y) (flat_map g ys) (e x y h.0) (AllZip-flat_map R S f g e xs ys h.1)
AllZip-flat_map R S f g e [] (_ ∷ _) h = absurd h
AllZip-flat_map R S f g e (_ ∷ _) [] h = absurd h

pub AllZip-weaken : {A B : Type 0} (R S : A → B → Type 0) → ((x : A) (y : B) → R x y → S x y) → (xs : List A) (ys : List B) → AllZip R xs ys → AllZip S xs ys
AllZip-weaken R S e [] [] h = tt
AllZip-weaken R S e (x ∷ xs) (y ∷ ys) h = (e x y h.0, AllZip-weaken R S e xs ys h.1)
AllZip-weaken R S e [] (_ ∷ _) h = absurd h
AllZip-weaken R S e (_ ∷ _) [] h = absurd h

-- two images of one list
pub AllZip-both : {A B C : Type 0} (P : A → Type 0) (S : B → C → Type 0) (f : A → B) (g : A → C) → ((x : A) → P x → S (f x) (g x)) → (xs : List A) → AllByRecursion P xs → AllZip S (map f xs) (map g xs)
AllZip-both P S f g e [] h = tt
AllZip-both P S f g e (x ∷ xs) h = (e x h.0, AllZip-both P S f g e xs h.1)

pub AllZip-flat_map_both : {A B C : Type 0} (P : A → Type 0) (S : B → C → Type 0) (f : A → List B) (g : A → List C) → ((x : A) → P x → AllZip S (f x) (g x)) → (xs : List A)
    → AllByRecursion P xs → AllZip S (flat_map f xs) (flat_map g xs)
AllZip-flat_map_both P S f g e [] h = tt
AllZip-flat_map_both P S f g e (x ∷ xs) h = AllZip-append S (f x) (flat_map f xs) (g x) (flat_map g xs) (e x h.0) (AllZip-flat_map_both P S f g e xs h.1)

pub length-AllZip : {A B : Type 0} (R : A → B → Type 0) (xs : List A) (ys : List B) → AllZip R xs ys → length xs ≡ length ys
length-AllZip R [] [] h = refl
length-AllZip R (x ∷ xs) (y ∷ ys) h = let e : length xs ≡ length ys = length-AllZip R xs ys h.1 in omega arith
length-AllZip R [] (_ ∷ _) h = absurd h
length-AllZip R (_ ∷ _) [] h = absurd h

-- one test on both sides
pub related-if : {A B : Type 0} (S : A → B → Type 0) (b c : Bool) → b ≡ c → (m n : A) (p q : B) → S m p → S n q → S (if b then m else n) (if c then p else q)
related-if S true true e m n p q h k = h
related-if S false false e m n p q h k = k
related-if S true false e m n p q h k = cc
related-if S false true e m n p q h k = cc

pub AllByRecursion-append : {A : Type 0} (P : A → Type 0) (xs ys : List A) → AllByRecursion P xs → AllByRecursion P ys → AllByRecursion P (xs ++ ys)
AllByRecursion-append P [] ys h k = k
AllByRecursion-append P (x ∷ xs) ys h k = (h.0, AllByRecursion-append P xs ys h.1 k)

pub AllByRecursion-map : {A B : Type 0} (P : A → Type 0) (Q : B → Type 0) (f : A → B) → ((x : A) → P x → Q (f x)) → (xs : List A) → AllByRecursion P xs → AllByRecursion Q (map f xs)
AllByRecursion-map P Q f e [] h = tt
AllByRecursion-map P Q f e (x ∷ xs) h = (e x h.0, AllByRecursion-map P Q f e xs h.1)

pub AllByRecursion-flat_map : {A B : Type 0} (P : A → Type 0) (Q : B → Type 0) (f : A → List B) → ((x : A) → P x → AllByRecursion Q (f x)) → (xs : List A) → AllByRecursion P xs → AllByRecursion Q (flat_map f xs)
AllByRecursion-flat_map P Q f e [] h = tt
AllByRecursion-flat_map P Q f e (x ∷ xs) h = AllByRecursion-append Q (f x) (flat_map f xs) (e x h.0) (AllByRecursion-flat_map P Q f e xs h.1)

pub AllByRecursion-weaken : {A : Type 0} (P Q : A → Type 0) → ((x : A) → P x → Q x) → (xs : List A) → AllByRecursion P xs → AllByRecursion Q xs
AllByRecursion-weaken P Q e [] h = tt
AllByRecursion-weaken P Q e (x ∷ xs) h = (e x h.0, AllByRecursion-weaken P Q e xs h.1)
