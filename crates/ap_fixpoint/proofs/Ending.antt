-- Each round that changes something makes the table higher, and there is a highest one: so the rounds end.
use Rattle.std.proofs.Common.{◌≡◌, ℕ, zero, suc, ◌+◌, ◌-◌, ◌<◌, ◌≤◌, ◌⊎◌, inl, inr, Bool, true, false, List, [], ◌∷◌, length, refl, ap, sym, ◌∙◌, subst, arith}
use Rattle.std.proofs.lemmas.Bool.{false≢true, and_cases, and_parts}
use Rattle.std.proofs.Math.Path.{fun_ext}
use Rattle.std.specs.List.{list_all}
use Rattle.ap_term.specs.Goals.{Program}
use Rattle.ap_patterns.specs.declared.slots.Slot.{Slot}
use Rattle.ap_patterns.specs.declared.slots.Given.{Given}
use Rattle.ap_patterns.specs.declared.entries.Entries.{Entries}
use Rattle.ap_patterns.specs.Given.{Patterns, given}
use Rattle.ap_patterns.specs.Covered.{is_covered}
use Rattle.ap_patterns.proofs.Coverings.{Below, Below-covered}
use Rattle.ap_fixpoint.specs.Fix.{united, next, table, IsFix}
use Rattle.ap_fixpoint.specs.Rounds.{steps, changed}
use Rattle.ap_fixpoint.proofs.Members.{Has}
use Rattle.ap_fixpoint.proofs.Joins.{AllKept, united_above, united_holds, united-same, same_slot-true}
use Rattle.ap_fixpoint.proofs.Heights.{height, top, height-few, height-more, height-grows}
use Rattle.ap_fixpoint.proofs.Bounds.{bound, slots, AllBounded, for_given, united-bounded, table-bounded}
use Rattle.ap_fixpoint.proofs.Fixing.{IsGoing, going-steps, table-kept, one-end}

-- ---- the height of a table

abbrev total : Entries → Patterns → List Slot → ℕ
total E t [] = 0
total E t (x ∷ xs) = height (bound E x) (t x) + total E t xs

abbrev most : Entries → List Slot → ℕ
most E [] = 0
most E (x ∷ xs) = top (bound E x) + most E xs

total-few : (E : Entries) (t : Patterns) (xs : List Slot) → AllBounded E t → total E t xs ≤ most E xs
total-few E t [] f = omega arith
total-few E t (x ∷ xs) f = omega (arith, height-few (bound E x) (t x) (f x), total-few E t xs f)

total-more : (E : Entries) (gs : List Given) (t : Patterns) (xs : List Slot) → total E t xs ≤ total E (united gs t) xs
total-more E gs t [] = omega arith
total-more E gs t (x ∷ xs) = omega (arith, height-more (bound E x) (t x) (united gs t x) (united_above gs t x), total-more E gs t xs)

total-grows : (E : Entries) (gs : List Given) (t : Patterns) (xs : List Slot) (y : Slot) → Has y xs → height (bound E y) (t y) < height (bound E y) (united gs t y) → total E t xs < total E (united gs t) xs
total-grows E gs t [] y h l = absurd h
total-grows E gs t (x ∷ xs) y (inl e) l =
    omega (arith, subst (λ z. height (bound E z) (t z) < height (bound E z) (united gs t z)) e l, total-more E gs t xs)
total-grows E gs t (x ∷ xs) y (inr h) l = omega (arith, height-more (bound E x) (t x) (united gs t x) (united_above gs t x), total-grows E gs t xs y h l)

-- ---- a round changes nothing, or makes the table higher

abbrev is_held : Patterns → Given → Bool
is_held t g = is_covered g.pattern (t g.slot)

all_held : (t : Patterns) (gs : List Given) → list_all (is_held t) gs ≡ true → (g : Given) → Has g gs → is_held t g ≡ true
all_held t [] h g i = absurd i
all_held t (f ∷ gs) h g (inl e) = ap (is_held t) e ∙ (and_parts (is_held t f) (list_all (is_held t) gs) h).0
all_held t (f ∷ gs) h g (inr i) = all_held t gs (and_parts (is_held t f) (list_all (is_held t) gs) h).1 g i

one_not : (t : Patterns) (gs : List Given) → list_all (is_held t) gs ≡ false → (g : Given) × Has g gs × (is_held t g ≡ false)
one_not t [] h = absurd (false≢true (sym h))
one_not t (f ∷ gs) h =
    elim (and_cases (is_held t f) (list_all (is_held t) gs) h) [ inl e ↦ (f, inl refl, e) | inr e ↦ (let r = one_not t gs e in (r.0, inr r.1, r.2)) ]

AllHeld : Entries → Program → Patterns → Type 0
AllHeld E A t = (g : Given) → Has g (given E A t) → is_held t g ≡ true

height_of : Entries → Program → Patterns → ℕ
height_of E A t = total E t (slots E A)

held_or_higher : (E : Entries) (A : Program) (t : Patterns) → AllBounded E t → AllHeld E A t ⊎ (height_of E A t < height_of E A (next E A t))
unfolding AllHeld height_of
held_or_higher E A t f = go (list_all (is_held t) (given E A t)) refl
  where
    go : (b : Bool) → list_all (is_held t) (given E A t) ≡ b → AllHeld E A t ⊎ (height_of E A t < height_of E A (next E A t))
    go true e = inl (all_held t (given E A t) e)
    go false e =
        let r = one_not t (given E A t) e in
        let for = for_given E A t in
        inr (total-grows E (given E A t) t (slots E A) r.0.slot (for r.0 r.1).0
        (height-grows (bound E r.0.slot) (t r.0.slot) (next E A t r.0.slot) r.0.pattern (f r.0.slot) (united-bounded E (slots E A) (given E A t) t for f r.0.slot) (united_above (given E A t) t r.0.slot)
        (united_holds (given E A t) t r.0 r.1) r.2))

held-same : (E : Entries) (A : Program) (t : Patterns) → AllKept t → AllHeld E A t → next E A t ≡ t
unfolding AllHeld
held-same E A t k h =
    fun_ext (λ x. united-same (given E A t) t x (k x) (λ g i e. subst (λ y. Below g.pattern (t y)) (same_slot-true g.slot x e) (Below-covered g.pattern (t g.slot) (h g i))))

-- ---- there is a table

height_limit : Entries → Program → ℕ
height_limit E A = most E (slots E A)

table-limit : (E : Entries) (A : Program) (n : ℕ) → height_of E A (table E A n) ≤ height_limit E A
unfolding height_of height_limit
table-limit E A n = total-few E (table E A n) (slots E A) (table-bounded E A n)

search_end : (E : Entries) (A : Program) (k n : ℕ) → height_limit E A < height_of E A (table E A n) + k → (m : ℕ) × (next E A (table E A m) ≡ table E A m)
search_end E A zero n l = absurd (omega (arith, l, table-limit E A n))
search_end E A (suc k) n l =
    elim (held_or_higher E A (table E A n) (table-bounded E A n)) [
      | inl h ↦ (n, held-same E A (table E A n) (table-kept E A n) h)
      | inr h ↦ search_end E A k (suc n) (omega (arith, l, h))
    ]

pub a-fix : (E : Entries) (A : Program) → (t : Patterns) × IsFix E A t
a-fix E A =
    let r = search_end E A (suc (height_limit E A)) 0 (omega arith) in
    (table E A r.0, record { round = r.0; reached = refl; last = r.1; first_one = λ m i. one-end E A m r.0 i r.1 })

-- ---- the loop

pub left_to_go : Entries → Program → Patterns → ℕ
left_to_go E A t = height_limit E A - height_of E A t

nothing_changes : (gs rest : List Given) (t : Patterns) → ((g : Given) → Has g rest → is_held t g ≡ true) → changed gs rest t ≡ []
nothing_changes gs [] t h = refl
nothing_changes gs (g ∷ rest) t h = rw (h g (inl refl)) (nothing_changes gs rest t (λ f j. h f (inr j)))

pub going-smaller : (E : Entries) (A : Program) (t new : Patterns) (gs : List Given) (ch : List Slot) → IsGoing E A t gs → ch ≡ changed gs gs t → (length ch ≡ 0 → ⊥) → new ≡ steps gs gs t
    → left_to_go E A new < left_to_go E A t
unfolding left_to_go AllHeld
going-smaller E A t new gs ch h c some s =
    elim (held_or_higher E A t bounded) [
      | inl k ↦ absurd (some (ap length (c ∙ nothing_changes gs gs t (λ g i. k g (h.only g i)))))
      | inr k ↦ (let l = subst (λ z. height_of E A z ≤ height_limit E A) h.reached (table-limit E A h.round) in
          let m = subst (λ z. height_of E A z ≤ height_limit E A) (ap (next E A) h.reached) (table-limit E A (suc h.round)) in
          let n : height_of E A new ≡ height_of E A (next E A t) = ap (height_of E A) (s ∙ going-steps E A t gs h) in omega (arith, k, l, m, n))
    ]
  where
    bounded : AllBounded E t
    bounded = subst (AllBounded E) h.reached (table-bounded E A h.round)
