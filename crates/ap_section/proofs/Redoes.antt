-- What is read of the newest frame's slots, and of the one that is redone next.
use Rattle.std.proofs.Common.{◌≡◌, ◌∙◌, ℕ, zero, suc, ◌-◌, ◌<◌, ◌≤◌, inl, inr, List, [], ◌∷◌, length, take, ap, ap₂, sym, refl, Some, None, is_some, Option, true, false, ◌||◌, ◌&&◌, get_or}
use Rattle.std.specs.List.{list_any, list_all}
use Rattle.ap_term.specs.Tree.{Trees}
use Rattle.ap_frames.specs.declared.frame.Frame.{Frame}
use Rattle.ap_frames.specs.declared.slots.Slot.{Slot}
use Rattle.ap_frames.specs.Slots.{is_running, has_answer, has_more}
use Rattle.ap_frames.specs.Verdicts.{place_behind, next_redo}
use Rattle.ap_tie.specs.Sections.{Row, rows}
use Rattle.ap_tie.specs.Settled.{stays}
use Rattle.ap_frames.specs.declared.frame.Round.{Round}
use Rattle.ap_frames.specs.declared.frame.Round.TheVariants.{First, Draining, Later, Closed}
use Rattle.ap_frames.proofs.Failing.{rightmost-inside}
use Rattle.ap_tied.specs.Settling.{IsRedoable}
use Rattle.ap_tied.specs.Ties.{IsCount}
use Rattle.ap_section.specs.declared.section.Section.{Section, out-Section}
use Rattle.ap_section.specs.Views.{view_of}
use Rattle.ap_section.specs.Lending.{count_in}
use Rattle.ap_section.specs.Slots.{IsAtFrame, slots_in, round_in}
use Rattle.ap_section.specs.Closes.{stays_by, stays_in}
use Rattle.ap_section.proofs.Levels.{slots_now}
use Rattle.ap_section.proofs.Newest.{top-at, slots-at, round-at, running-row}
use Rattle.ap_section.proofs.Shown.{answer-row, more-row}

-- ---- rows

pub next-now : (xs : List (Slot Section Trees)) → next_redo (rows (slots_now xs)) ≡ next_redo xs
next-now [] = refl
next-now (x ∷ xs) = ap₂ place_behind (next-now xs) (more-row x)

running-now : (xs : List (Slot Section Trees)) → list_any is_running (rows (slots_now xs)) ≡ list_any is_running xs
running-now [] = refl
running-now (x ∷ xs) = ap₂ (λ a b. a || b) (running-row x) (running-now xs)

left-now : (k : ℕ) (xs : List (Slot Section Trees)) → list_all has_answer (take k (rows (slots_now xs))) ≡ list_all has_answer (take k xs)
left-now zero xs = refl
left-now (suc k) [] = refl
left-now (suc k) (x ∷ xs) = ap₂ (λ a b. a && b) (answer-row x) (left-now k xs)

-- where one can be redone no slot was given away
pub redo-count : (rd : Round) (n : ℕ) (xs : List (Slot Section Trees)) → is_some (next_redo xs) ≡ true → IsCount rd (length xs) n → length xs ≡ n
redo-count rd n [] e h = absurd (let z : false ≡ true = e in cc)
redo-count rd n (x ∷ xs) e (inl d) = d
redo-count rd n (x ∷ xs) e (inr d) = absurd (let z : suc (length xs) ≡ 0 = d.1 in cc)

-- ---- the newest frame

pub running-at : (s : Section) (n : ℕ) (f : Frame Section Trees) → n ≡ count_in s → IsAtFrame (view_of s) → f ≡ get_or (out-Section s).frames.items (n - 1) f
    → list_any is_running f.slots.items ≡ list_any is_running (rows (slots_in (view_of s)))
running-at s n f e at v = sym (running-now f.slots.items) ∙ ap (λ w. list_any is_running (rows w)) (sym (slots-at s f (top-at s n f e at v) at))

pub next-at : (s : Section) (n : ℕ) (f : Frame Section Trees) → n ≡ count_in s → IsAtFrame (view_of s) → f ≡ get_or (out-Section s).frames.items (n - 1) f
    → next_redo (rows (slots_in (view_of s))) ≡ next_redo f.slots.items
next-at s n f e at v = ap (λ w. next_redo (rows w)) (slots-at s f (top-at s n f e at v) at) ∙ next-now f.slots.items

pub left-at : (s : Section) (n : ℕ) (f : Frame Section Trees) (i : ℕ) → n ≡ count_in s → IsAtFrame (view_of s) → f ≡ get_or (out-Section s).frames.items (n - 1) f
    → list_all has_answer (take i (rows (slots_in (view_of s)))) ≡ list_all has_answer (take i f.slots.items)
left-at s n f i e at v = ap (λ w. list_all has_answer (take i (rows w))) (slots-at s f (top-at s n f e at v) at) ∙ left-now i f.slots.items

stays-same : (rd : Round) (xs : List Row) → stays_by rd (next_redo xs) ≡ stays rd xs
stays-same First xs = refl
stays-same (Draining n) xs = refl
stays-same (Later i) xs = refl
stays-same Closed xs = refl

pub stays-at : (s : Section) (n : ℕ) (f : Frame Section Trees) (o : Option ℕ) → n ≡ count_in s → IsAtFrame (view_of s) → f ≡ get_or (out-Section s).frames.items (n - 1) f → o ≡ next_redo f.slots.items
    → stays_by f.round o ≡ stays_in (view_of s)
stays-at s n f o e at v k =
    ap₂ stays_by (sym (round-at s f (top-at s n f e at v) at)) (k ∙ sym (next-at s n f e at v)) ∙ stays-same (round_in (view_of s)) (rows (slots_in (view_of s)))

-- ---- the slot that is redone next

pub next-place : (xs : List (Slot Section Trees)) (i : ℕ) → next_redo xs ≡ Some i → (0 < i) × (i ≤ length xs)
next-place xs i e = rightmost-inside has_more xs i e

pub redoable-some : (s : Section) (n : ℕ) (f : Frame Section Trees) (i : ℕ) → n ≡ count_in s → IsAtFrame (view_of s) → f ≡ get_or (out-Section s).frames.items (n - 1) f → next_redo f.slots.items ≡ Some i
    → list_all has_answer (take (i - 1) f.slots.items) ≡ true → IsRedoable (rows (slots_in (view_of s)))
redoable-some s n f i e at v k h = λ j d. let same : i ≡ j = let m = sym k ∙ sym (next-at s n f e at v) ∙ d in cc in left-at s n f (j - 1) e at v ∙ ap (λ m. list_all has_answer (take (m - 1) f.slots.items)) (sym same) ∙ h

pub redoable-none : (s : Section) (n : ℕ) (f : Frame Section Trees) → n ≡ count_in s → IsAtFrame (view_of s) → f ≡ get_or (out-Section s).frames.items (n - 1) f → next_redo f.slots.items ≡ None → IsRedoable (rows (slots_in (view_of s)))
redoable-none s n f e at v k = λ j d. absurd (let m = sym k ∙ sym (next-at s n f e at v) ∙ d in cc)

pub not-redoable : (s : Section) (n : ℕ) (f : Frame Section Trees) (i : ℕ) → n ≡ count_in s → IsAtFrame (view_of s) → f ≡ get_or (out-Section s).frames.items (n - 1) f → next_redo f.slots.items ≡ Some i
    → list_all has_answer (take (i - 1) f.slots.items) ≡ false → IsRedoable (rows (slots_in (view_of s))) → ⊥
not-redoable s n f i e at v k h r = let m : true ≡ false = sym (r i (next-at s n f e at v ∙ k)) ∙ left-at s n f (i - 1) e at v ∙ h in cc
