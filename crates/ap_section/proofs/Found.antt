-- The leftmost slot that can be started, and whether none can.
use Rattle.std.proofs.Common.{◌≡◌, ◌∙◌, ℕ, zero, suc, ◌+◌, ◌-◌, ◌<◌, ◌≤◌, inl, inr, Bool, true, false, ◌||◌, not, nat_lt, cond, List, [], ◌∷◌, ◌++◌, length, slice_get, take, Option, Some, None, ap, ap₂, sym, subst, refl, get_or, rules, arith}
use Rattle.std.specs.Prelude.{position, IfSome}
use Rattle.std.specs.List.{list_any, position_or_len}
use Rattle.std.proofs.lemmas.Bool.{ltb-true, ltb-false}
use Rattle.std.proofs.lemmas.Option.{same_Some}
use Rattle.std.proofs.Math.Seq.{take-suc, length-take-le}
use Rattle.ap_term.specs.Tree.{Trees}
use Rattle.ap_tie.specs.Sections.{Row, rows}
use Rattle.ap_frames.specs.declared.frame.Frame.{Frame}
use Rattle.ap_frames.specs.declared.slots.Slot.{Slot}
use Rattle.ap_frames.specs.declared.slots.Stand.{Stand}
use Rattle.ap_frames.specs.declared.slots.Stand.TheVariants.{Ready, Waiting, Running, Answered, Replayed, Ended, GivenBack}
use Rattle.ap_frames.specs.declared.frame.Round.{Round}
use Rattle.ap_frames.specs.declared.frame.Round.TheVariants.{First, Draining, Later, Closed}
use Rattle.ap_frames.specs.Rows.{of_slot}
use Rattle.ap_frames.specs.Slots.{stands_startable, is_startable}
use Rattle.ap_frames.specs.Verdicts.{place_behind, rightmost}
use Rattle.ap_frames.proofs.Failing.{rightmost-here}
use Rattle.ap_section.specs.declared.section.Section.{Section, out-Section}
use Rattle.ap_section.specs.Views.{view_of, row_of, bare}
use Rattle.ap_section.specs.Slots.{IsAtFrame, IsFirstReady, IsReadyAt, HasNoReady, slots_in, round_in, stands_ready, is_ready, last_ready_of, last_ready_in}
use Rattle.ap_section.specs.Lending.{count_in}
use Rattle.ap_section.proofs.Newest.{top-at, slots-at, round-at, startable-row, length-rows}
use Rattle.ap_section.proofs.Levels.{slots_now}
use Rattle.ap_section.proofs.Shown.{position-shown, rightmost-shown}

abbrev first_in : List Row → ℕ
first_in rs = position_or_len is_startable rs

-- place k can be started, and none before it can
abbrev IsFound : List Row → ℕ → Type 0
IsFound rs k = (of_slot is_startable false (slice_get rs k) ≡ true) × (list_any is_startable (take k rs) ≡ false)

found-first : (rs : List Row) → first_in rs < length rs → IsFound rs (first_in rs)
found-first [] h = absurd (omega (arith, h))
found-first (r ∷ rs) h = go (is_startable r) refl h (found-first rs)
  where
    go : (b : Bool) → is_startable r ≡ b → cond (not b) (1 + first_in rs) 0 < suc (length rs) → (first_in rs < length rs → IsFound rs (first_in rs)) → IsFound (r ∷ rs) (cond (not b) (1 + first_in rs) 0)
    go true e k found = (e, refl)
    go false e k found =
        let m : suc (first_in rs) ≡ 1 + first_in rs = omega arith in
        let f = found (omega (arith, k)) in
        subst (IsFound (r ∷ rs)) m (f.0, ap₂ (λ a b. a || b) e f.1)

none-first : (rs : List Row) → length rs ≤ first_in rs → list_any is_startable rs ≡ false
none-first [] h = refl
none-first (r ∷ rs) h = go (is_startable r) refl h (none-first rs)
  where
    go : (b : Bool) → is_startable r ≡ b → suc (length rs) ≤ cond (not b) (1 + first_in rs) 0 → (length rs ≤ first_in rs → list_any is_startable rs ≡ false) → list_any is_startable (r ∷ rs) ≡ false
    go true e k none = absurd (omega (arith, k))
    go false e k none = ap₂ (λ a b. a || b) e (none (omega (arith, k)))

none-some : (k : ℕ) → None ≡ Some k → ⊥
none-some k e = search rules

found-place : (rs : List Row) (k : ℕ) → position is_startable rs ≡ Some k → (k < length rs) × IsFound rs k
found-place rs k e = go (nat_lt (first_in rs) (length rs)) refl e
  where
    go : (b : Bool) → nat_lt (first_in rs) (length rs) ≡ b → cond b (Some (first_in rs)) None ≡ Some k → (k < length rs) × IsFound rs k
    go true l h = let i = ltb-true (first_in rs) (length rs) l in subst (λ j. (j < length rs) × IsFound rs j) (same_Some (first_in rs) k h) (i, found-first rs i)
    go false l h = absurd (none-some k h)

found-none : (rs : List Row) → position is_startable rs ≡ None → list_any is_startable rs ≡ false
found-none rs e = go (nat_lt (first_in rs) (length rs)) refl e
  where
    go : (b : Bool) → nat_lt (first_in rs) (length rs) ≡ b → cond b (Some (first_in rs)) None ≡ None → list_any is_startable rs ≡ false
    go true l h = absurd (none-some (first_in rs) (sym h))
    go false l h = none-first rs (ltb-false (first_in rs) (length rs) l)

position-at : (s : Section) (n : ℕ) (f : Frame Section Trees) → n ≡ count_in s → IsAtFrame (view_of s) → f ≡ get_or (out-Section s).frames.items (n - 1) f
    → position is_startable (rows (slots_in (view_of s))) ≡ position is_startable f.slots.items
position-at s n f e at v = ap (λ w. position is_startable (rows w)) (slots-at s f (top-at s n f e at v) at) ∙ position-shown is_startable is_startable startable-row f.slots.items

pub closed-ready : (s : Section) (n : ℕ) (f : Frame Section Trees) → n ≡ count_in s → IsAtFrame (view_of s) → f ≡ get_or (out-Section s).frames.items (n - 1) f → f.round ≡ Closed → HasNoReady (view_of s)
closed-ready s n f e at v h = inl (round-at s f (top-at s n f e at v) at ∙ h)

pub none-ready : (s : Section) (n : ℕ) (f : Frame Section Trees) → n ≡ count_in s → IsAtFrame (view_of s) → f ≡ get_or (out-Section s).frames.items (n - 1) f → position is_startable f.slots.items ≡ None
    → HasNoReady (view_of s)
none-ready s n f e at v h = inr (found-none (rows (slots_in (view_of s))) (position-at s n f e at v ∙ h))

pub first-ready : (s : Section) (n : ℕ) (f : Frame Section Trees) (k : ℕ) → n ≡ count_in s → IsAtFrame (view_of s) → f ≡ get_or (out-Section s).frames.items (n - 1) f → (f.round ≡ Closed → ⊥)
    → position is_startable f.slots.items ≡ Some k → IsFirstReady (k + 1) (view_of s)
first-ready s n f k e at v opened h =
    let r = found-place (rows (slots_in (view_of s))) k (position-at s n f e at v ∙ h) in
    let m : k ≡ k + 1 - 1 = omega arith in
    let l : k < length (rows (slots_in (view_of s))) = r.0 in
    let found = subst (IsFound (rows (slots_in (view_of s)))) m r.1 in
    ((omega arith, omega (arith, l)), found.0, found.1, λ c. opened (sym (round-at s f (top-at s n f e at v) at) ∙ c))

-- ---- the rightmost slot that is ready

abbrev pub IsReadyPlace : List (Slot Section Trees) → ℕ → Type 0
IsReadyPlace xs i = (0 < i) × (i ≤ length xs) × (of_slot is_startable false (slice_get xs (i - 1)) ≡ true)

told-shown : (k : ℕ) (xs : List (Slot Section Trees)) → of_slot is_startable false (slice_get (rows (slots_now xs)) k) ≡ of_slot is_startable false (slice_get xs k)
told-shown zero [] = refl
told-shown (suc k) [] = refl
told-shown zero (x ∷ xs) = startable-row x
told-shown (suc k) (x ∷ xs) = told-shown k xs

ready-place : (s : Section) (n : ℕ) (f : Frame Section Trees) (i : ℕ) → n ≡ count_in s → IsAtFrame (view_of s) → f ≡ get_or (out-Section s).frames.items (n - 1) f → (f.round ≡ Closed → ⊥) → IsReadyPlace f.slots.items i → IsReadyAt i (view_of s)
ready-place s n f i e at v opened h =
    let t = top-at s n f e at v in
    let shown = slots-at s f t at in
    let size : length (rows (slots_in (view_of s))) ≡ length f.slots.items = ap (λ w. length (rows w)) shown ∙ length-rows f.slots.items in (
      (h.0, subst (λ m. i ≤ m) (sym size) h.1),
      ap (λ w. of_slot is_startable false (slice_get (rows w) (i - 1))) shown ∙ told-shown (i - 1) f.slots.items ∙ h.2,
      λ c. opened (sym (round-at s f t at) ∙ c),
    )

ready-stand : (y : Stand Section) → stands_ready (bare y) ≡ stands_ready y
ready-stand Ready = refl
ready-stand Waiting = refl
ready-stand (Running r) = refl
ready-stand (Answered a) = refl
ready-stand (Replayed k) = refl
ready-stand (Ended e c) = refl
ready-stand GivenBack = refl

ready-row : (x : Slot Section Trees) → is_ready (row_of x) ≡ is_ready x
ready-row x = ready-stand x.stand

ready-startable : (y : Stand Section) → stands_ready y ≡ true → stands_startable y ≡ true
ready-startable Ready h = refl
ready-startable Waiting h = absurd (cc)
ready-startable (Running r) h = absurd (cc)
ready-startable (Answered a) h = absurd (cc)
ready-startable (Replayed k) h = absurd (cc)
ready-startable (Ended e c) h = absurd (cc)
ready-startable GivenBack h = absurd (cc)

ready-behind : (x : Slot Section Trees) (xs : List (Slot Section Trees)) (j : ℕ) → IsReadyPlace xs j → IsReadyPlace (x ∷ xs) (j + 1)
ready-behind x xs j h =
    let d : suc (j - 1) ≡ j + 1 - 1 = omega (arith, h.0) in
    (omega arith, omega (arith, h.1), subst (λ m. of_slot is_startable false (slice_get (x ∷ xs) m) ≡ true) d h.2)

rightmost-ready : (xs : List (Slot Section Trees)) (i : ℕ) → rightmost is_ready xs ≡ Some i → IsReadyPlace xs i
rightmost-ready [] i e = absurd (cc)
rightmost-ready (x ∷ xs) i e = go (rightmost is_ready xs) (rightmost-ready xs) (is_ready x) refl e
  where
    go : (o : Option ℕ) → ((j : ℕ) → o ≡ Some j → IsReadyPlace xs j) → (b : Bool) → is_ready x ≡ b → place_behind o b ≡ Some i → IsReadyPlace (x ∷ xs) i
    go (Some j) k b t e = let d : j + 1 ≡ i = cc in subst (IsReadyPlace (x ∷ xs)) d (ready-behind x xs j (k j refl))
    go None k true t e = let d : 1 ≡ i = cc in subst (IsReadyPlace (x ∷ xs)) d (omega arith, omega arith, ready-startable x.stand t)
    go None k false t e = absurd (cc)

last-open : (d : Round) (rs : List Row) → (d ≡ Closed → ⊥) → last_ready_of d rs ≡ rightmost is_ready rs
last-open First rs h = refl
last-open (Draining c) rs h = refl
last-open (Later i) rs h = refl
last-open Closed rs h = absurd (h refl)

pub last-closed : (s : Section) (n : ℕ) (f : Frame Section Trees) → n ≡ count_in s → IsAtFrame (view_of s) → f ≡ get_or (out-Section s).frames.items (n - 1) f → f.round ≡ Closed → None ≡ last_ready_in (view_of s)
last-closed s n f e at v h = sym (ap (λ d. last_ready_of d (rows (slots_in (view_of s)))) (round-at s f (top-at s n f e at v) at ∙ h))

pub last-ready : (s : Section) (n : ℕ) (f : Frame Section Trees) (o : Option ℕ) → n ≡ count_in s → IsAtFrame (view_of s) → f ≡ get_or (out-Section s).frames.items (n - 1) f → (f.round ≡ Closed → ⊥)
    → o ≡ rightmost is_ready f.slots.items → o ≡ last_ready_in (view_of s)
last-ready s n f o e at v opened h =
    let t = top-at s n f e at v in
    let shut : round_in (view_of s) ≡ Closed → ⊥ = λ c. opened (sym (round-at s f t at) ∙ c) in
    h ∙ sym (rightmost-shown is_ready is_ready ready-row f.slots.items) ∙ sym (ap (λ w. rightmost is_ready (rows w)) (slots-at s f t at)) ∙ sym (last-open (round_in (view_of s)) (rows (slots_in (view_of s))) shut)

pub last-place : (s : Section) (n : ℕ) (f : Frame Section Trees) (o : Option ℕ) → n ≡ count_in s → IsAtFrame (view_of s) → f ≡ get_or (out-Section s).frames.items (n - 1) f → (f.round ≡ Closed → ⊥)
    → o ≡ rightmost is_ready f.slots.items → IfSome o (λ i. IsReadyAt i (view_of s))
last-place s n f None e at v opened h = tt
last-place s n f (Some i) e at v opened h = ready-place s n f i e at v opened (rightmost-ready f.slots.items i (sym h))

-- ---- found from behind

pub rightmost-behind : (xs : List (Slot Section Trees)) (i : ℕ) (x : Slot Section Trees) → 0 < i → i ≤ length xs → x ≡ get_or xs (i - 1) x → is_ready x ≡ true → rightmost is_ready (take i xs) ≡ Some i
rightmost-behind xs i x p q e t =
    let d : i ≡ suc (i - 1) = omega (arith, p) in
    let cut : take i xs ≡ take (i - 1) xs ++ x ∷ [] = ap (λ m. take m xs) d ∙ take-suc xs (i - 1) x (omega (arith, p, q)) ∙ ap (λ y. take (i - 1) xs ++ y ∷ []) (sym e) in
    let size : length (take (i - 1) xs) + 1 ≡ i = omega (arith, length-take-le (i - 1) xs (omega (arith, q)), p) in
    ap (rightmost is_ready) cut ∙ rightmost-here is_ready (take (i - 1) xs) [] x t refl ∙ ap Some size

rightmost-push : (xs : List (Slot Section Trees)) (x : Slot Section Trees) → is_ready x ≡ false → rightmost is_ready (xs ++ x ∷ []) ≡ rightmost is_ready xs
rightmost-push [] x t = ap (place_behind None) t
rightmost-push (y ∷ xs) x t = ap (λ o. place_behind o (is_ready y)) (rightmost-push xs x t)

pub rightmost-before : (xs : List (Slot Section Trees)) (i : ℕ) (x : Slot Section Trees) → 0 < i → i ≤ length xs → x ≡ get_or xs (i - 1) x → is_ready x ≡ false
    → rightmost is_ready (take i xs) ≡ rightmost is_ready (take (i - 1) xs)
rightmost-before xs i x p q e t =
    let d : i ≡ suc (i - 1) = omega (arith, p) in
    let cut : take i xs ≡ take (i - 1) xs ++ x ∷ [] = ap (λ m. take m xs) d ∙ take-suc xs (i - 1) x (omega (arith, p, q)) ∙ ap (λ y. take (i - 1) xs ++ y ∷ []) (sym e) in
    ap (rightmost is_ready) cut ∙ rightmost-push (take (i - 1) xs) x t

pub ruleset last_rules = (rightmost-behind, rightmost-before)
