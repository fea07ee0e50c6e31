-- What is told of slots once one of them stands otherwise, or those behind one are readied.
use Rattle.std.proofs.Common.{◌≡◌, ◌∙◌, ℕ, zero, suc, ◌-◌, ◌<◌, ◌≤◌, length, slice_get, ap, sym, subst, refl, Option, Some, None, Bool, true, false, rules}
use Rattle.std.proofs.lemmas.Bool.{false≢true}
use Rattle.ap_frames.specs.declared.slots.Stand.{Stand}
use Rattle.ap_frames.specs.declared.slots.Stand.TheVariants.{Ready, Waiting, Running, Answered, Replayed, Ended, GivenBack}
use Rattle.ap_frames.specs.declared.slots.Run.{Run}
use Rattle.ap_frames.specs.declared.slots.Run.TheVariants.{First}
use Rattle.ap_frames.specs.Slots.{stands_startable, stands_running, stands_first, is_startable, is_running, may_be_given_back}
use Rattle.ap_frames.specs.Rows.{of_slot, standing}
use Rattle.ap_frames.specs.Rounds.{readied, readied_stand}
use Rattle.ap_tie.specs.Sections.{Row, Section, section, Slots, no_slot, slot, Held, bottom, parcall, rows}
use Rattle.ap_tied.specs.SlotCalls.{stood_in, stood, row_in, readied_behind}
use Rattle.ap_tied.proofs.Places.{length-stood}
use Rattle.ap_tied.proofs.SlotRestarts.{length_behind}
use Rattle.ap_section.specs.Views.{budget_in}
use Rattle.ap_section.specs.Slots.{IsAtFrame, IsPlaceIn, IsSlotOf, told_of, slots_in, readied_in}

-- ---- places

pub one-less : (i : ℕ) → 0 < i → suc (i - 1) ≡ i
one-less i h = search rules

pub no-place : (i : ℕ) → 0 < i → i ≤ 0 → ⊥
no-place i h k = search rules

-- ---- what is told of a slot

told-implies : (f g : Row → Bool) → ((x : Row) → f x ≡ true → g x ≡ true) → (o : Option Row) → of_slot f false o ≡ true → of_slot g false o ≡ true
told-implies f g by None h = absurd (false≢true h)
told-implies f g by (Some x) h = by x h

told-apart : (f g : Row → Bool) → ((x : Row) → f x ≡ true → g x ≡ true → ⊥) → (o : Option Row) → of_slot f false o ≡ true → of_slot g false o ≡ true → ⊥
told-apart f g by None h k = false≢true h
told-apart f g by (Some x) h k = by x h k

stands-first : (y : Stand (Unit {0})) → stands_first y ≡ true → stands_running y ≡ true
stands-first (Running r) h = refl
stands-first Ready h = h
stands-first Waiting h = h
stands-first (Answered a) h = h
stands-first (Replayed k) h = h
stands-first (Ended e c) h = h
stands-first GivenBack h = h

stands-apart : (y : Stand (Unit {0})) → stands_startable y ≡ true → stands_running y ≡ true → ⊥
stands-apart (Running r) h k = false≢true h
stands-apart Ready h k = false≢true k
stands-apart Waiting h k = false≢true k
stands-apart (Answered a) h k = false≢true k
stands-apart (Replayed j) h k = false≢true k
stands-apart (Ended e c) h k = false≢true k
stands-apart GivenBack h k = false≢true k

-- a slot that may be given back runs
pub first-runs : (i : ℕ) (s : Section) → told_of may_be_given_back i s ≡ true → told_of is_running i s ≡ true
first-runs i s h = told-implies may_be_given_back is_running (λ x e. stands-first x.stand e) (row_in i (slots_in s)) h

-- one that can be started isn't one that runs
pub ready-apart : (i j : ℕ) (s : Section) → told_of is_startable i s ≡ true → told_of is_running j s ≡ true → i ≡ j → ⊥
ready-apart i j s h k e =
    told-apart is_startable is_running (λ x a b. stands-apart x.stand a b) (row_in j (slots_in s)) (subst (λ n. told_of is_startable n s ≡ true) e h) k

pub row-of : (f : Row → Bool) (o : Option Row) → of_slot f false o ≡ true → (x : Row) × (o ≡ Some x) × (f x ≡ true)
row-of f None h = absurd (false≢true h)
row-of f (Some x) h = (x, refl, h)

-- there is such a slot
pub told-row : (f : Row → Bool) (i : ℕ) (s : Section) → told_of f i s ≡ true → (x : Row) × (row_in i (slots_in s) ≡ Some x) × (f x ≡ true)
told-row f i s h = row-of f (row_in i (slots_in s)) h

-- ---- one of them stands otherwise

pub at-stood : (i : ℕ) (e : Stand (Unit {0})) (a : Held) (v : Section) → IsAtFrame v → IsAtFrame (stood i e a v)
at-stood i e a (section m c b bottom) h = h
at-stood i e a (section m c b (parcall f q rd w qs st)) h =
    (h.0, h.1, length-stood i e a w ∙ h.2, h.3, subst (λ n. IsSlotOf n rd) (sym (length-stood i e a w)) h.4)

-- places are places still
pub place-stood : (i j : ℕ) (e : Stand (Unit {0})) (a : Held) (v : Section) → IsPlaceIn i v → IsPlaceIn i (stood j e a v)
place-stood i j e a (section m c b bottom) h = h
place-stood i j e a (section m c b (parcall f q rd w qs st)) h = (h.0, subst (λ n. i ≤ n) (sym (length-stood j e a w)) h.1)

told-others : (f : Row → Bool) (i k : ℕ) (e : Stand (Unit {0})) (a : Held) (w : Slots) → (suc k ≡ i → ⊥) → of_slot f false (slice_get (rows (stood_in i e a w)) k) ≡ of_slot f false (slice_get (rows w) k)
told-others f i k e a no_slot n = refl
told-others f zero k e a (slot x b w) n = refl
told-others f (suc zero) zero e a (slot x b w) n = absurd (n refl)
told-others f (suc zero) (suc k) e a (slot x b w) n = refl
told-others f (suc (suc i)) zero e a (slot x b w) n = refl
told-others f (suc (suc i)) (suc k) e a (slot x b w) n = told-others f (suc i) k e a w (λ z. n (ap suc z))

-- the others stand as they did
pub told-else : (f : Row → Bool) (j i : ℕ) (e : Stand (Unit {0})) (a : Held) (s : Section) → 0 < j → (j ≡ i → ⊥) → told_of f j (stood i e a s) ≡ told_of f j s
told-else f j i e a (section m c b bottom) above n = refl
told-else f j i e a (section m c b (parcall g q rd w qs st)) above n = told-others f i (j - 1) e a w (λ z. n (sym (one-less j above) ∙ z))

told-self : (f : Row → Bool) (k : ℕ) (e : Stand (Unit {0})) (a : Held) (w : Slots) → ((x : Row) → f (standing e x) ≡ true) → k < length (rows w)
    → of_slot f false (slice_get (rows (stood_in (suc k) e a w)) k) ≡ true
told-self f k e a no_slot by h = absurd (no-place (suc k) (search rules) (search rules))
told-self f zero e a (slot x b w) by h = by x
told-self f (suc k) e a (slot x b w) by h = told-self f k e a w by (search rules)

-- the slot itself
pub told-here : (f : Row → Bool) (i : ℕ) (e : Stand (Unit {0})) (a : Held) (s : Section) → ((x : Row) → f (standing e x) ≡ true) → IsPlaceIn i s → told_of f i (stood i e a s) ≡ true
told-here f i e a (section m c b bottom) by h = absurd (no-place i h.0 h.1)
told-here f i e a (section m c b (parcall g q rd w qs st)) by h =
    ap (λ k. of_slot f false (slice_get (rows (stood_in k e a w)) (i - 1))) (sym (one-less i h.0)) ∙ told-self f (i - 1) e a w by (search rules)

-- a slot that was made to run runs
pub runs-stood : (r : Run) (i : ℕ) (a : Held) (v : Section) → IsPlaceIn i v → told_of is_running i (stood i (Running r) a v) ≡ true
runs-stood r i a v h = told-here is_running i (Running r) a v (λ x. refl) h

-- from its goal on
pub first-stood : (i : ℕ) (a : Held) (v : Section) → IsPlaceIn i v → told_of may_be_given_back i (stood i (Running First) a v) ≡ true
first-stood i a v h = told-here may_be_given_back i (Running First) a v (λ x. refl) h

pub budget-stood : (i : ℕ) (e : Stand (Unit {0})) (a : Held) (s : Section) → budget_in (stood i e a s) ≡ budget_in s
budget-stood i e a (section m c b st) = refl

-- ---- those behind one are readied

pub at-readied : (i : ℕ) (v : Section) → IsAtFrame v → IsAtFrame (readied_in i v)
at-readied i (section m c b bottom) h = h
at-readied i (section m c b (parcall f q rd w qs st)) h =
    (h.0, h.1, length_behind i w ∙ h.2, h.3, subst (λ n. IsSlotOf n rd) (sym (length_behind i w)) h.4)

pub place-readied : (i j : ℕ) (v : Section) → IsPlaceIn i v → IsPlaceIn i (readied_in j v)
place-readied i j (section m c b bottom) h = h
place-readied i j (section m c b (parcall f q rd w qs st)) h = (h.0, subst (λ n. i ≤ n) (sym (length_behind j w)) h.1)

told-behind : (f : Row → Bool) → ((x : Row) → f x ≡ true → f (readied x) ≡ true) → (i k : ℕ) (w : Slots) → of_slot f false (slice_get (rows w) k) ≡ true → of_slot f false (slice_get (rows (readied_behind i w)) k) ≡ true
told-behind f by i k no_slot h = h
told-behind f by zero zero (slot x a w) h = by x h
told-behind f by zero (suc k) (slot x a w) h = told-behind f by zero k w h
told-behind f by (suc i) zero (slot x a w) h = h
told-behind f by (suc i) (suc k) (slot x a w) h = told-behind f by i k w h

told-readied : (f : Row → Bool) → ((x : Row) → f x ≡ true → f (readied x) ≡ true) → (j i : ℕ) (s : Section) → told_of f j s ≡ true → told_of f j (readied_in i s) ≡ true
told-readied f by j i (section m c b bottom) h = h
told-readied f by j i (section m c b (parcall g q rd w qs st)) h = told-behind f by i (j - 1) w h

first-on : (y : Stand (Unit {0})) → stands_first y ≡ true → stands_first (readied_stand y) ≡ true
first-on Waiting h = h
first-on Ready h = h
first-on (Running r) h = h
first-on (Answered a) h = h
first-on (Replayed k) h = h
first-on (Ended e c) h = h
first-on GivenBack h = h

pub first-readied : (j i : ℕ) (s : Section) → told_of may_be_given_back j s ≡ true → told_of may_be_given_back j (readied_in i s) ≡ true
first-readied j i s h = told-readied may_be_given_back (λ x e. first-on x.stand e) j i s h
