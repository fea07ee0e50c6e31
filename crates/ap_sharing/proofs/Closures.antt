-- The closure is the least list that has the sets and is closed under union.
use Rattle.std.proofs.Common.{◌≡◌, ℕ, ◌⊎◌, inl, inr, Bool, ◌||◌, List, [], ◌∷◌, refl, ap, ap₂, sym, ◌∙◌, subst, true}
use Rattle.ap_term.proofs.Facts.{same_bool}
use Rattle.ap_sharing.specs.VarSet.{union}
use Rattle.ap_sharing.specs.Sets.{In, Is, IsAscending, insert_set, with_each, grown, grown_all, closure, listed}
use Rattle.ap_sharing.proofs.Elements.{union_twice, union_comm, union_assoc}
use Rattle.ap_sharing.proofs.Lists.{Elem, In-some, In-elem, In-map, Elem-map, In-put, In-stays, In-insert_cases, In-join_left, In-join_right, In-join_cases, ascending-insert, ascending-join, ascending-none, Is-union, one_list, Elem-listed, listed-Elem}

-- how a set came into the list that s made grow
data Made (s : ℕ) (C : List ℕ) (a : ℕ) : Type 0 where
  itself : s ≡ a → Made s C a
  joined : (t : ℕ) → Elem t C → union s t ≡ a → Made s C a
  other : Elem a C → Made s C a

how : (s : ℕ) (C : List ℕ) (a : ℕ) → Elem a (grown C s) → Made s C a
how s C a h = go (In-join_cases (λ r. a ≡ r) (insert_set C s) (with_each s C) h)
  where
    go : In (λ r. a ≡ r) (insert_set C s) ⊎ In (λ r. a ≡ r) (with_each s C) → Made s C a
    go (inl k) = elim (In-insert_cases (λ r. a ≡ r) C s k) [ inl e ↦ itself (sym e) | inr j ↦ other j ]
    go (inr k) = let j = Elem-map (union s) a C k in joined j.0 j.1 j.2

there : (s : ℕ) (C : List ℕ) (a : ℕ) → Made s C a → Elem a (grown C s)
there s C a (itself e) = In-join_left (λ r. a ≡ r) (insert_set C s) (with_each s C) (In-put (λ r. a ≡ r) C s (sym e))
there s C a (joined t h e) =
    In-join_right (λ r. a ≡ r) (insert_set C s) (with_each s C) (In-map (λ r. t ≡ r) (λ r. a ≡ r) (union s) C (λ r i. sym e ∙ ap (union s) i) h)
there s C a (other h) = In-join_left (λ r. a ≡ r) (insert_set C s) (with_each s C) (In-stays (λ r. a ≡ r) C s h)

abbrev pub IsClosed : List ℕ → Type 0
IsClosed C = (a b : ℕ) → Elem a C → Elem b C → Elem (union a b) C

absorb : (s t : ℕ) → union s (union s t) ≡ union s t
absorb s t = sym (union_assoc s s t) ∙ ap (λ z. union z t) (union_twice s)

swap_in : (a s t : ℕ) → union a (union s t) ≡ union s (union a t)
swap_in a s t = sym (union_assoc a s t) ∙ ap (λ z. union z t) (union_comm a s) ∙ union_assoc s a t

pub closed_grown : (s : ℕ) (C : List ℕ) → IsClosed C → IsClosed (grown C s)
closed_grown s C ih a b h k = there s C (union a b) (go (how s C a h) (how s C b k))
  where
    go : Made s C a → Made s C b → Made s C (union a b)
    go (itself e) (itself f) = itself (sym (ap₂ union (sym e) (sym f) ∙ union_twice s))
    go (itself e) (joined t i f) = joined t i (sym (ap₂ union (sym e) (sym f) ∙ absorb s t))
    go (itself e) (other j) = joined b j (ap (λ z. union z b) e)
    go (joined t i f) (itself e) = joined t i (sym (ap₂ union (sym f) (sym e) ∙ union_comm (union s t) s ∙ absorb s t))
    go (joined t i e) (joined r j f) =
        joined (union t r) (ih t r i j) (sym (ap₂ union (sym e) (sym f) ∙ union_assoc s t (union s r) ∙ ap (union s) (swap_in t s r) ∙ absorb s (union t r)))
    go (joined t i e) (other j) = joined (union t b) (ih t b i j) (sym (ap (λ z. union z b) (sym e) ∙ union_assoc s t b))
    go (other i) (itself e) = joined a i (sym (ap (union a) (sym e) ∙ union_comm a s))
    go (other i) (joined t j e) = joined (union a t) (ih a t i j) (sym (ap (union a) (sym e) ∙ swap_in a s t))
    go (other i) (other j) = other (ih a b i j)

closed_all : (C ts : List ℕ) → IsClosed C → IsClosed (grown_all C ts)
closed_all C [] h = h
closed_all C (t ∷ ts) h = closed_all (grown C t) ts (closed_grown t C h)

pub closed_none : IsClosed []
closed_none a b h k = absurd h

pub closed : (ss : List ℕ) (a b : ℕ) → Elem a (closure ss) → Elem b (closure ss) → Elem (union a b) (closure ss)
closed ss = closed_all [] ss closed_none

In-grown : (P : ℕ → Type 0) (C : List ℕ) (s : ℕ) → In P C → In P (grown C s)
In-grown P C s h = In-join_left P (insert_set C s) (with_each s C) (In-stays P C s h)

In-first : (P : ℕ → Type 0) (C ts : List ℕ) → In P C → In P (grown_all C ts)
In-first P C [] h = h
In-first P C (t ∷ ts) h = In-first P (grown C t) ts (In-grown P C t h)

In-second : (P : ℕ → Type 0) (C ts : List ℕ) → In P ts → In P (grown_all C ts)
In-second P C [] h = absurd h
In-second P C (t ∷ ts) (inl h) = In-first P (grown C t) ts (In-join_left P (insert_set C t) (with_each t C) (In-put P C t h))
In-second P C (t ∷ ts) (inr h) = In-second P (grown C t) ts h

pub In-closure : (P : ℕ → Type 0) (ss : List ℕ) → In P ss → In P (closure ss)
In-closure P ss h = In-second P [] ss h

pub closure-union : (p q : ℕ → Bool) (ss : List ℕ) → In (λ s. Is s p) (closure ss) → In (λ s. Is s q) (closure ss) → In (λ s. Is s (λ x. p x || q x)) (closure ss)
closure-union p q ss h k =
    let i = In-some (λ s. Is s p) (closure ss) h in
    let j = In-some (λ s. Is s q) (closure ss) k in
    In-elem (λ s. Is s (λ x. p x || q x)) (closure ss) (union i.0 j.0) (closed ss i.0 j.0 i.2 j.2) (Is-union i.0 j.0 p q i.1 j.1)

-- ---- the least one

module _ (P : ℕ → Type 0) (step : (s t : ℕ) → P s → P t → P (union s t)) where
  from_made : (s : ℕ) (C : List ℕ) (a : ℕ) → P s → ((r : ℕ) → Elem r C → P r) → Made s C a → P a
  from_made s C a p h (itself e) = subst P e p
  from_made s C a p h (joined t i e) = subst P e (step s t p (h t i))
  from_made s C a p h (other i) = h a i

  least_all : (C ts : List ℕ) → ((r : ℕ) → Elem r C → P r) → ((r : ℕ) → Elem r ts → P r) → (a : ℕ) → Elem a (grown_all C ts) → P a
  least_all C [] h k a e = h a e
  least_all C (t ∷ ts) h k a e = least_all (grown C t) ts (λ r i. from_made t C r (k t (inl refl)) h (how t C r i)) (λ r i. k r (inr i)) a e

  pub least : (ss : List ℕ) → ((r : ℕ) → Elem r ss → P r) → (a : ℕ) → Elem a (closure ss) → P a
  least ss k a e = least_all [] ss (λ r i. absurd i) k a e

pub ascending-grown : (s : ℕ) (C : List ℕ) → IsAscending C → IsAscending (grown C s)
ascending-grown s C h = ascending-join (insert_set C s) (with_each s C) (ascending-insert C s h)

-- a set that is there makes a closed list no longer
pub grown_same : (s : ℕ) (C : List ℕ) → IsAscending C → IsClosed C → listed s C ≡ true → grown C s ≡ C
grown_same s C a h k = one_list (grown C s) C (ascending-grown s C a) a (λ r.
    same_bool (listed r (grown C s)) (listed r C)
    (λ i. listed-Elem r C (back r (how s C r (Elem-listed r (grown C s) i))))
    (λ i. listed-Elem r (grown C s) (there s C r (other (Elem-listed r C i)))))
  where
    back : (r : ℕ) → Made s C r → Elem r C
    back r (itself e) = subst (λ z. Elem z C) e (Elem-listed s C k)
    back r (joined t i e) = subst (λ z. Elem z C) e (h s t (Elem-listed s C k) i)
    back r (other i) = i

ascending_all : (C ts : List ℕ) → IsAscending C → IsAscending (grown_all C ts)
ascending_all C [] h = h
ascending_all C (t ∷ ts) h = ascending_all (grown C t) ts (ascending-grown t C h)

pub ascending-closure : (ss : List ℕ) → IsAscending (closure ss)
ascending-closure ss = ascending_all [] ss ascending-none
