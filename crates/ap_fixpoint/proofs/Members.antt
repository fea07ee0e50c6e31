-- What is in a list.
use Rattle.std.proofs.Common.{◌⊎◌, inl, inr, List, [], ◌∷◌, ◌++◌, refl, subst}
use Rattle.std.specs.List.{flat_map}
pub use Rattle.ap_fixpoint.specs.Members.{Has}

pub Has-left : {A : Type 0} (x : A) (xs ys : List A) → Has x xs → Has x (xs ++ ys)
Has-left x [] ys h = absurd h
Has-left x (z ∷ xs) ys (inl e) = inl e
Has-left x (z ∷ xs) ys (inr h) = inr (Has-left x xs ys h)

pub Has-right : {A : Type 0} (x : A) (xs ys : List A) → Has x ys → Has x (xs ++ ys)
Has-right x [] ys h = h
Has-right x (z ∷ xs) ys h = inr (Has-right x xs ys h)

pub Has-cases : {A : Type 0} (x : A) (xs ys : List A) → Has x (xs ++ ys) → Has x xs ⊎ Has x ys
Has-cases x [] ys h = inr h
Has-cases x (z ∷ xs) ys (inl e) = inl (inl e)
Has-cases x (z ∷ xs) ys (inr h) = elim (Has-cases x xs ys h) [ inl k ↦ inl (inr k) | inr k ↦ inr k ]

pub Has-flat_map : {A B : Type 0} (f : A → List B) (b : B) (x : A) (xs : List A) → Has x xs → Has b (f x) → Has b (flat_map f xs)
Has-flat_map f b x [] h k = absurd h
Has-flat_map f b x (y ∷ xs) (inl e) k = Has-left b (f y) (flat_map f xs) (subst (λ z. Has b (f z)) e k)
Has-flat_map f b x (y ∷ xs) (inr h) k = Has-right b (f y) (flat_map f xs) (Has-flat_map f b x xs h k)

pub Has-from : {A B : Type 0} (f : A → List B) (b : B) (xs : List A) → Has b (flat_map f xs) → (x : A) × Has x xs × Has b (f x)
Has-from f b [] h = absurd h
Has-from f b (y ∷ xs) h =
    elim (Has-cases b (f y) (flat_map f xs) h) [
      | inl k ↦ (y, inl refl, k)
      | inr k ↦ (let r = Has-from f b xs k in (r.0, inr r.1, r.2))
    ]
