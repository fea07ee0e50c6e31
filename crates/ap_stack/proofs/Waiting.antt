-- What is read of a section, as the laws of open sections want it.
use Rattle.std.proofs.Common.{◌≡◌, ℕ, zero, suc, ◌-◌, ◌<◌, ◌≤◌, Bool, true, false, ◌∷◌, Some, slice_get, refl, ap, sym, ◌∙◌, subst, arith}
use Rattle.std.proofs.lemmas.Bool.{false≢true}
use Rattle.ap_frames.specs.declared.frame.Round.{Round}
use Rattle.ap_frames.specs.declared.frame.Round.TheVariants.{First, Draining, Later, Closed}
use Rattle.ap_frames.specs.declared.slots.Stand.{Stand}
use Rattle.ap_frames.specs.Rows.{of_slot, standing}
use Rattle.ap_frames.specs.Slots.{is_running, is_startable, has_answer}
use Rattle.ap_frames.specs.Verdicts.{next_redo}
use Rattle.ap_instr.specs.Code.{Compiled}
use Rattle.ap_tie.specs.Sections.{Row, Section, section, bottom, parcall, Slots, no_slot, slot, Held, nothing, held, rows}
use Rattle.ap_tied.specs.SlotCalls.{row_in, held_in, stood_in, stood, answered, gone_on}
use Rattle.ap_tied.proofs.Places.{length-stood}
use Rattle.ap_open.specs.Opened.{spent_in, rest_in}
use Rattle.ap_open.specs.Moving.{HasAnsweredAgain, restarted}
use Rattle.ap_open.specs.Calling.{MayBegin, MayRedo, with_redone, HasMore}
use Rattle.ap_section.specs.Views as seen
use Rattle.ap_section.specs.Ends.{Ends, HasNext, HasNothing}
use Rattle.ap_section.specs.Slots.{IsAtFrame, IsPlaceIn, IsFirstReady, told_of, round_in, slots_in, redone_of, redone_in, readied_in, taken_in, is_held, IsGoneOn}
use Rattle.ap_section.specs.declared.advance.Turn.TheVariants as turn
use Rattle.ap_section.proofs.Stood.{row-of}

-- ---- slots by their places

row-behind : (i : ℕ) (x : Row) (h : Held) (w : Slots) → row_in (suc (suc i)) (slot x h w) ≡ row_in (suc i) w
row-behind i x h w =
    let e : suc (suc i) - 1 ≡ suc (suc i - 1) = omega arith in
    ap (slice_get (x ∷ rows w)) e

stood-row : (i : ℕ) (e : Stand (Unit {0})) (h : Held) (w : Slots) (x : Row) → 0 < i → row_in i w ≡ Some x → row_in i (stood_in i e h w) ≡ Some (standing e x)
stood-row zero e h w x l is = absurd (omega arith)
stood-row (suc zero) e h no_slot x l is = cc
stood-row (suc zero) e h (slot y a w) x l is = let same : y ≡ x = cc in ap (λ z. Some (standing e z)) same
stood-row (suc (suc i)) e h no_slot x l is = cc
stood-row (suc (suc i)) e h (slot y a w) x l is =
    row-behind i y a (stood_in (suc i) e h w) ∙ stood-row (suc i) e h w x (omega arith) (sym (row-behind i y a w) ∙ is)

pub rest-is : (s : Section) → seen.budget_in s - seen.spent_in s ≡ rest_in s
rest-is (section m c b st) = refl

pub spent-is : (s : Section) → seen.spent_in s ≡ spent_in s
spent-is (section m c b st) = refl

-- ---- slots begin, and begin anew

pub may-begin : (i : ℕ) (s : Section) → IsAtFrame s → IsFirstReady i s → MayBegin i s
may-begin i (section m c b bottom) at first = absurd at
may-begin i (section m c b (parcall f q rd w qs st)) at first = let r = row-of is_startable (row_in i w) first.1 in (at.0, first.3, first.0.0, r.0, r.1, r.2)

redone-later : (rd : Round) (i : ℕ) → redone_of rd ≡ Some i → rd ≡ Later i
redone-later First i e = cc
redone-later (Draining n) i e = cc
redone-later (Later j) i e = let same : j ≡ i = cc in ap Later same
redone-later Closed i e = cc

-- slot i is given an answer
pub put-answer : (i cost : ℕ) (more : Bool) (h : Held) (s : Section) → IsPlaceIn i s → told_of is_running i s ≡ true → IsPlaceIn i (stood i (answered cost more) h s) × (told_of has_answer i (stood i (answered cost more) h s) ≡ true)
put-answer i cost more h (section m c b bottom) place runs = cc
put-answer i cost more h (section m c b (parcall f q rd w qs st)) place runs =
    let r = row-of is_running (row_in i w) runs in
    let stands = stood-row i (answered cost more) h w r.0 place.0 r.1 in
    ((place.0, subst (λ n. i ≤ n) (sym (length-stood i (answered cost more) h w)) place.1), ap (of_slot has_answer false) stands)

pub has-answered : (i : ℕ) (s : Section) → IsPlaceIn i s → told_of has_answer i s ≡ true → redone_in s ≡ Some i → HasAnsweredAgain i s
has-answered i (section m c b bottom) place has again = cc
has-answered i (section m c b (parcall f q rd w qs st)) place has again = let r = row-of has_answer (row_in i w) has in (redone-later rd i again, place.0, r.0, r.1, r.2)

pub restarted-is : (i : ℕ) (s : Section) → readied_in i s ≡ restarted i s
restarted-is i (section m c b bottom) = refl
restarted-is i (section m c b (parcall f q rd w qs st)) = refl

-- ---- a slot is redone

held-there : (h : Held) → is_held h ≡ true → (a : Section) × (h ≡ held a)
held-there nothing e = absurd (false≢true e)
held-there (held a) e = (a, refl)

gone-on : (r : ℕ) (h : Held) (a t : Section) → h ≡ held a → IsGoneOn r h t → t ≡ gone_on r a
gone-on r nothing a t e is = absurd is
gone-on r (held b) a t e is = let same : b ≡ a = cc in is ∙ ap (gone_on r) same

pub may-redo : (i : ℕ) (s : Section) → IsAtFrame s → round_in s ≡ Closed → next_redo (rows (slots_in s)) ≡ Some i → is_held (held_in i (slots_in s)) ≡ true → (t : Section) → IsGoneOn (seen.budget_in s - seen.spent_in s) (held_in i (slots_in s)) t
    → (a : Section) × MayRedo i a s × (t ≡ gone_on (rest_in s) a)
may-redo i (section m c b bottom) at closed next there t is = absurd at
may-redo i (section m c b (parcall f q rd w qs st)) at closed next there t is =
    let h = held-there (held_in i w) there in
    (h.0, (at.0, closed, next, h.1), gone-on (b - c) (held_in i w) h.0 t h.1 is)

pub taken-is : (i : ℕ) (s : Section) → taken_in i s ≡ with_redone i s
taken-is i (section m c b bottom) = refl
taken-is i (section m c b (parcall f q rd w qs st)) = refl

pub gone-on-spent : (r : ℕ) (a : Section) → seen.spent_in (gone_on r a) ≡ spent_in a
gone-on-spent r (section m c b st) = refl

-- ---- where a section comes to rest

pub at-frame : (code : Compiled) (n : ℕ) (s t : Section) → Ends code n s t turn.Fork → IsAtFrame t
at-frame code n s (section m c b bottom) e = e.0
at-frame code n s (section m c b (parcall f q rd w qs st)) e = e.0

pub has-more : (code : Compiled) (s : Section) (more : Bool) → (more ≡ false → HasNothing s) → (more ≡ true → HasNext code s) → HasMore code s more
has-more code (section m c b st) more none some = record { none = none; some = some }

-- what a search cost in this round
pub cost-is : (s : Section) (n cost since : ℕ) → n ≡ seen.spent_in s → cost ≡ n - since → cost ≡ spent_in s - since
cost-is (section m c b st) n cost since e f = f ∙ ap (λ k. k - since) e
