-- The index of the clauses that read a slot, and the walks that make it and go through it.
use Rattle.std.proofs.Common.{◌≡◌, ℕ, zero, suc, ◌+◌, ◌<◌, ◌≤◌, ◌||◌, Bool, true, false, cond, List, [], ◌∷◌, ◌++◌, Option, Some, None, length, drop, get_or, append-nil, refl, ap, sym, ◌∙◌, subst, ◌⊎◌, inl, inr, slice_get, arith}
use Rattle.std.proofs.lemmas.Bool.{false≢true, eqb-true}
use Rattle.std.proofs.lemmas.List.{drop_all}
use Rattle.std.proofs.lemmas.Option.{slice_get_past}
use Rattle.std.proofs.lemmas.List.Sorted.{Contains-permutation}
use Rattle.std.specs.List.{flat_map, list_any, Contains}
use Rattle.std.specs.List.Sorted.{IsPermutation}
use Rattle.ap_term.specs.Goals.{Program, Clause}
use Rattle.ap_patterns.specs.declared.slots.Slot.{Slot}
use Rattle.ap_patterns.specs.declared.slots.Given.{Given}
use Rattle.ap_patterns.specs.Given.{Patterns, given_by_clause}
use Rattle.ap_patterns.specs.Covered.{is_covered}
use Rattle.ap_fixpoint.specs.Fix.{same_slot}
use Rattle.ap_fixpoint.specs.Reads.{slots_of, is_among, reads, noted, readers_from, IsIndex, given_if_there, given_by_number, is_last, once, given_by_numbers, IsReread}
use Rattle.ap_fixpoint.proofs.Members.{Has, Has-left, Has-right, Has-flat_map, Has-from}
use Rattle.ap_fixpoint.proofs.Joins.{same_slot-true, same_slot-refl}
use Rattle.ap_fixpoint.proofs.Unreached.{uncovered-Has, uncovered-cases}

-- ---- members by their places

Has-Contains : {A : Type 0} (x : A) (xs : List A) → Has x xs → Contains xs x
Has-Contains x [] h = absurd h
Has-Contains x (y ∷ ys) (inl e) = (0, omega arith, sym e)
Has-Contains x (y ∷ ys) (inr h) = let r = Has-Contains x ys h in (suc r.0, let i = r.1 in omega (arith, i), r.2)

Contains-Has : {A : Type 0} (x : A) (xs : List A) → Contains xs x → Has x xs
Contains-Has x xs h = go xs h.0 h.1 h.2
  where
    go : {A : Type 0} {x : A} (ys : List A) (k : ℕ) → k < length ys → get_or ys k x ≡ x → Has x ys
    go [] k l e = absurd (omega (arith, l))
    go (y ∷ ys) zero l e = inl (sym e)
    go (y ∷ ys) (suc k) l e = inr (go ys k (omega (arith, l)) e)

Has-permutation : {A : Type 0} (x : A) (xs ys : List A) → IsPermutation xs ys → Has x xs → Has x ys
Has-permutation x xs ys p h = Contains-Has x ys (Contains-permutation xs ys x p (Has-Contains x xs h))

Has-place : {A : Type 0} (x : A) (xs : List A) → Has x xs → (k : ℕ) × (slice_get xs k ≡ Some x)
Has-place x [] h = absurd h
Has-place x (y ∷ ys) (inl e) = (0, ap Some (sym e))
Has-place x (y ∷ ys) (inr h) = let r = Has-place x ys h in (suc r.0, r.1)

any-Has : {A : Type 0} (p : A → Bool) (xs : List A) → list_any p xs ≡ true → (x : A) × Has x xs × (p x ≡ true)
any-Has p [] h = absurd (false≢true h)
any-Has {A} p (x ∷ xs) h = go (p x) refl (any-Has p xs) h
  where
    go : (b : Bool) → p x ≡ b → (list_any p xs ≡ true → (y : A) × Has y xs × (p y ≡ true)) → (b || list_any p xs) ≡ true → (y : A) × Has y (x ∷ xs) × (p y ≡ true)
    go true e ih i = (x, inl refl, e)
    go false e ih i = let r = ih i in (r.0, inr r.1, r.2)

-- ---- a clause stands at each slot that it reads

among-Has : (x : Slot) (ys : List Slot) → is_among x ys ≡ true → Has x ys
among-Has x ys h = let r = any-Has (λ y. same_slot y x) ys h in subst (λ z. Has z ys) (same_slot-true r.0 x r.2) r.1

noted-Has : (n : ℕ) (ys : List Slot) (x : Slot) → Has x ys → Has n (noted n ys x)
noted-Has n [] x h = absurd h
noted-Has n (y ∷ ys) x (inl e) = Has-left n (cond (same_slot y x) (n ∷ []) []) (noted n ys x) (subst (λ b. Has n (cond b (n ∷ []) [])) (sym (ap (λ z. same_slot z x) (sym e) ∙ same_slot-refl x)) (inl refl))
noted-Has n (y ∷ ys) x (inr h) = Has-right n (cond (same_slot y x) (n ∷ []) []) (noted n ys x) (noted-Has n ys x h)

readers-Has : (n : ℕ) (A : Program) (k : ℕ) (c : Clause) (x : Slot) → slice_get A k ≡ Some c → Has x (slots_of c) → Has (n + k) (readers_from n A x)
readers-Has n [] k c x e h = cc
readers-Has n (d ∷ ds) zero c x e h =
    Has-left (n + 0) (noted n (slots_of d) x) (readers_from (n + 1) ds x)
    (subst (λ m. Has m (noted n (slots_of d) x)) (let i : n ≡ n + 0 = omega arith in i) (noted-Has n (slots_of d) x (subst (λ z. Has x (slots_of z)) (sym (some-same e)) h)))
  where
    some-same : {d c : Clause} → Some d ≡ Some c → d ≡ c
    some-same e = cc
readers-Has n (d ∷ ds) (suc k) c x e h =
    Has-right (n + suc k) (noted n (slots_of d) x) (readers_from (n + 1) ds x)
    (subst (λ m. Has m (readers_from (n + 1) ds x)) (let i : (n + 1) + k ≡ n + suc k = omega arith in i) (readers-Has (n + 1) ds k c x e h))

-- ---- what is given by numbers

there-only : (t : Patterns) (A : Program) (n : ℕ) (g : Given) → Has g (given_by_number t A n) → Has g (flat_map (given_by_clause t) A)
there-only t [] n g h = absurd h
there-only t (c ∷ cs) zero g h = Has-left g (given_by_clause t c) (flat_map (given_by_clause t) cs) (uncovered-Has t (given_by_clause t c) g h)
there-only t (c ∷ cs) (suc n) g h = Has-right g (given_by_clause t c) (flat_map (given_by_clause t) cs) (there-only t cs n g h)

once-Has : (last : Option ℕ) (ns : List ℕ) (k : ℕ) → Has k ns → Has k (once last ns) ⊎ (last ≡ Some k)
once-Has last [] k h = absurd h
once-Has last (n ∷ ns) k h = go (is_last last n) refl (λ o i. once-Has o ns k i) h
  where
    same : (o : Option ℕ) → is_last o n ≡ true → o ≡ Some n
    same None e = absurd (false≢true e)
    same (Some m) e = ap Some (eqb-true m n e)

    later : Has k (once (Some n) ns) ⊎ (Some n ≡ Some k) → Has k (n ∷ once (Some n) ns)
    later (inl i) = inr i
    later (inr i) = inl (let j : n ≡ k = cc in sym j)

    go : (b : Bool) → is_last last n ≡ b → ((o : Option ℕ) → Has k ns → Has k (once o ns) ⊎ (o ≡ Some k)) → Has k (n ∷ ns)
        → Has k (cond b (once last ns) (n ∷ once (Some n) ns)) ⊎ (last ≡ Some k)
    go true e ih (inl i) = inr (same last e ∙ ap Some (sym i))
    go true e ih (inr i) = ih last i
    go false e ih (inl i) = inl (inl i)
    go false e ih (inr i) = inl (later (ih (Some n) i))

once-all : (ns : List ℕ) (k : ℕ) → Has k ns → Has k (once None ns)
once-all ns k h = elim (once-Has None ns k h) [ inl i ↦ i | inr i ↦ cc ]

pub reread : (A : Program) (f : Slot → List ℕ) (ys : List Slot) (t : Patterns) (ns : List ℕ) (gs : List Given) → IsIndex A f → IsPermutation (flat_map f ys) ns → gs ≡ given_by_numbers t A ns
    → IsReread A ys t gs
reread A f ys t ns gs index order e = record {
  only = λ g h. (let r = Has-from (given_by_number t A) g (once None ns) (subst (Has g) e h) in there-only t A r.0 g r.2);
  enough = λ c h i g j. from_clause c h i g j;
}
  where
    number : (c : Clause) (k : ℕ) → slice_get A k ≡ Some c → reads ys c ≡ true → Has k (once None ns)
    number c k at i =
        let r = any-Has (λ x. is_among x ys) (slots_of c) i in
        let here : Has k (f r.0) = subst (Has k) (sym (index r.0)) (subst (λ m. Has m (readers_from 0 A r.0)) (let z : 0 + k ≡ k = omega arith in z) (readers-Has 0 A k c r.0 at r.1)) in
        once-all ns k (Has-permutation k (flat_map f ys) ns order (Has-flat_map f k r.0 ys (among-Has r.0 ys r.2) here))

    from_clause : (c : Clause) → Has c A → reads ys c ≡ true → (g : Given) → Has g (given_by_clause t c) → Has g gs ⊎ (is_covered g.pattern (t g.slot) ≡ true)
    from_clause c h i g j =
        let r = Has-place c A h in
        elim (uncovered-cases t (given_by_clause t c) g j) [
          | inl k ↦ inl (subst (Has g) (sym e) (Has-flat_map (given_by_number t A) g r.0 (once None ns) (number c r.0 r.1 i) (subst (λ o. Has g (given_if_there t o)) (sym r.1) k)))
          | inr k ↦ inr k
        ]

-- ---- the walks

pub readers-done : (f : Slot → List ℕ) (A P : Program) (i : ℕ) (x : Slot) → A ≡ P → length A ≤ i → f x ++ readers_from i (drop i A) x ≡ readers_from 0 A x → f x ≡ readers_from 0 P x
readers-done f A P i x e l w = sym (append-nil (f x)) ∙ ap (λ zs. f x ++ readers_from i zs x) (sym (drop_all i A l)) ∙ w ∙ ap (λ z. readers_from 0 z x) e

pub none-given : (t : Patterns) (A : Program) (n : ℕ) (gs : List Given) → length A ≤ n → gs ≡ gs ++ given_by_number t A n
none-given t A n gs l = sym (append-nil gs) ∙ ap (λ o. gs ++ given_if_there t o) (sym (slice_get_past A n l))
