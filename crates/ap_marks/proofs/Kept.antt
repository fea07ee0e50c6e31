-- What the places of numbers tell.
use Rattle.std.proofs.Common.{◌≡◌, ℕ, suc, ◌<◌, ◌≤◌, Bool, true, false, ◌||◌, nat_eq, List, [], ◌∷◌, ◌++◌, length, slice_set, get_or, refl, sym, ap, ◌∙◌, arith, inl, inr, eq-eqb}
use Rattle.std.proofs.lemmas.Bool.{false≢true, ne_eqb, cases_eq, cases_lt}
use Rattle.std.proofs.lemmas.List.{get_or_append_left, get_or-set_same, get_or-set_other, length-append, length-set}
use Rattle.std.proofs.Math.Seq.{get_or-append_seam}
use Rattle.std.proofs.lemmas.List.Folds.{list_any_at}
use Rattle.std.proofs.lemmas.List.Sums.{position_or_len_is}
use Rattle.std.specs.List.{list_any, position_or_len}
use Rattle.ap_marks.specs.Marks.{AreDistinct, AreKept, AreMarks}

-- a number that is there, with its place
place_of : (x : ℕ) (ks : List ℕ) → list_any (nat_eq x) ks ≡ true → (i : ℕ) × ((i < length ks) × (get_or ks i 0 ≡ x))
place_of x [] h = absurd (false≢true h)
place_of x (k ∷ ks) h = elim (cases_eq k x) [
  | inl e ↦ (0, (omega arith, e))
  | inr n ↦
      let rest : list_any (nat_eq x) ks ≡ true = sym (ap (λ b. b || list_any (nat_eq x) ks) (ne_eqb x k (λ e. n (sym e)))) ∙ h in
      let p = place_of x ks rest in
      (suc p.0, (omega (arith, p.1.0), p.1.1))
]

pub none_is : (x : ℕ) (order : List ℕ) → ((j : ℕ) → j < length order → get_or order j 0 ≡ x → ⊥) → list_any (nat_eq x) order ≡ false
none_is x order h = go (list_any (nat_eq x) order) refl
  where
    go : (b : Bool) → list_any (nat_eq x) order ≡ b → list_any (nat_eq x) order ≡ false
    go false e = e
    go true e =
        let p = place_of x order e in
        absurd (h p.0 p.1.0 p.1.1)

pub first_is : (x : ℕ) (order : List ℕ) (k : ℕ) → k < length order → ((j : ℕ) → j < k → get_or order j 0 ≡ x → ⊥) → get_or order k 0 ≡ x → k ≡ position_or_len (nat_eq x) order
first_is x order k h n e =
    sym (position_or_len_is (nat_eq x) order k 0 (omega arith)
    (λ j l. ne_eqb x (get_or order j 0) (λ q. n j l (sym q)))
    (λ l. eq-eqb x (get_or order k 0) (sym e)))

pub there_is : (x : ℕ) (order : List ℕ) (k : ℕ) → k < length order → get_or order k 0 ≡ x → list_any (nat_eq x) order ≡ true
there_is x order k h e = list_any_at (nat_eq x) order k 0 h (eq-eqb x (get_or order k 0) (sym e))

module _ (order places : List ℕ) (kept : AreKept order places) where
  pub place_is : (x k : ℕ) → get_or places x 0 ≡ k → k < length order → get_or order k 0 ≡ x → k ≡ position_or_len (nat_eq x) order
  place_is x k p h e =
      first_is x order k h (λ j l q. let m = sym (kept.kept j (omega arith)) ∙ ap (λ y. get_or places y 0) q ∙ p in omega arith) e

  -- another number, or none, has its place
  pub is_absent : (x : ℕ) → (x < length places → get_or places x 0 < length order → get_or order (get_or places x 0) 0 ≡ x → ⊥) → list_any (nat_eq x) order ≡ false
  is_absent x h =
      none_is x order (λ j l e.
      let i = kept.inside j l in
      let k = sym (ap (λ y. get_or places y 0) e) ∙ kept.kept j l in
      h (omega (arith, e)) (omega arith) (ap (λ j. get_or order j 0) k ∙ e))

-- behind numbers that are kept one more is
pub one_more : (order places wider : List ℕ) (x n : ℕ) → AreDistinct order → AreKept order places → list_any (nat_eq x) order ≡ false → n ≡ length order → x < length wider → length places ≤ length wider → ((k : ℕ) → k < length places → get_or wider k 0 ≡ get_or places k 0) → AreMarks (order ++ x ∷ []) (slice_set wider x n)
one_more order places wider x n distinct kept absent last room longer same =
    record { distinct = apart; kept = λ h. record { inside = inside; kept = found } }
  where
    seam : get_or (order ++ x ∷ []) (length order) 0 ≡ x
    seam = get_or-append_seam order x [] 0

    early : (j : ℕ) → j < length order → get_or (order ++ x ∷ []) j 0 ≡ get_or order j 0
    early j h = get_or_append_left order (x ∷ []) 0 j h

    late : (k : ℕ) → k < length (order ++ x ∷ []) → length order ≤ k → k ≡ length order
    late k h m = omega (arith, h, m, length-append order (x ∷ []))

    at_seam : (k : ℕ) → k ≡ length order → get_or (order ++ x ∷ []) k 0 ≡ x
    at_seam k e = ap (λ i. get_or (order ++ x ∷ []) i 0) e ∙ seam

    others : (j : ℕ) → j < length order → get_or order j 0 ≡ x → ⊥
    others j h e = false≢true (sym absent ∙ there_is x order j h e)

    apart : AreDistinct (order ++ x ∷ [])
    apart j k h l e = elim (cases_lt k (length order)) [
      | inl m ↦ distinct j k h m (sym (early j (omega (arith, h, m))) ∙ e ∙ early k m)
      | inr m ↦
          let is = late k l m in
          let below : j < length order = omega (arith, h, is) in
          others j below (sym (early j below) ∙ e ∙ at_seam k is)
    ]

    inside : (k : ℕ) → k < length (order ++ x ∷ []) → get_or (order ++ x ∷ []) k 0 < length (slice_set wider x n)
    inside k h = elim (cases_lt k (length order)) [
      | inl m ↦ omega (arith, early k m, length-set wider x n, kept.inside k m, longer)
      | inr m ↦ omega (arith, at_seam k (late k h m), length-set wider x n, room)
    ]

    found : (k : ℕ) → k < length (order ++ x ∷ []) → get_or (slice_set wider x n) (get_or (order ++ x ∷ []) k 0) 0 ≡ k
    found k h = elim (cases_lt k (length order)) [
      | inl m ↦
          ap (λ i. get_or (slice_set wider x n) i 0) (early k m) ∙ get_or-set_other wider x (get_or order k 0) n 0 (others k m)
          ∙ same (get_or order k 0) (kept.inside k m) ∙ kept.kept k m
      | inr m ↦
          let is = late k h m in
          ap (λ i. get_or (slice_set wider x n) i 0) (at_seam k is) ∙ get_or-set_same wider x n 0 room ∙ last ∙ sym is
    ]
