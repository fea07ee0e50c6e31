-- A section whose newest frame's slots drop what they hold.
use Rattle.std.proofs.Common.{◌≡◌, ◌∙◌, ℕ, zero, suc, ◌+◌, ◌-◌, ◌<◌, Bool, true, false, if◌then◌else◌, nat_lt, List, [], ◌∷◌, ◌++◌, length, reverse, Option, Some, None, inr, ap, ap₂, sym, subst, refl, get_or, arith}
use Rattle.std.proofs.lemmas.Bool.{lt-ltb, le-ltb}
use Rattle.std.proofs.lemmas.List.{get_or_at}
use Rattle.std.proofs.lemmas.Option.{slice_get-get_or, same_Some}
use Rattle.ap_term.specs.Tree.{Trees}
use Rattle.ap_instr.specs.Code.{Compiled}
use Rattle.ap_tie.specs.Sections as seen
use Rattle.ap_tie.specs.Sections.{section, Slots, no_slot, slot, Stack, bottom, parcall}
use Rattle.ap_tied.specs.Emptied.{left_of, emptied_stand, emptied, hold_of, hold_by, emptied_behind, emptied_stack, emptied_in}
use Rattle.ap_tied.specs.Settling.{SettlingLaw}
use Rattle.ap_tied.specs.Ties.{Goes}
use Rattle.ap_frames.specs.declared.frame.Frame.{Frame}
use Rattle.ap_frames.specs.declared.frame.Round.{Round}
use Rattle.ap_frames.specs.declared.frame.Round.TheVariants.{Closed}
use Rattle.ap_frames.specs.declared.slots.Slot.{Slot}
use Rattle.ap_frames.specs.declared.slots.Stand.{Stand}
use Rattle.ap_frames.specs.declared.slots.Stand.TheVariants.{Ready, Waiting, Running, Answered, Replayed, Ended, GivenBack}
use Rattle.ap_frames.specs.Rows.{row, with_slots}
use Rattle.ap_frames.specs.Verdicts.{next_redo}
use Rattle.ap_frames.specs.Rounds.{numbered, behind}
use Rattle.ap_frames.proofs.Numbered.{changed_more, changed_all, length-numbered}
use Rattle.ap_machine.specs.View.{Segment, Paused}
use Rattle.ap_section.specs.declared.section.Section.{Section, out-Section}
use Rattle.ap_section.specs.Views.{view_of, row_of, bare, bare_section}
use Rattle.ap_section.specs.Ready.{shape_of, IsReady}
use Rattle.ap_section.specs.Lending.{count_in, with_newest}
use Rattle.ap_section.specs.Closes.{kept_by, kept_of}
use Rattle.ap_section.specs.Owed.{OwesNoMore}
use Rattle.ap_section.proofs.Levels.{held_own, held_now, slots_now, stack_now, seen_as}
use Rattle.ap_section.proofs.Parts.{HeldReady, StandReady, SlotsReady}
use Rattle.ap_section.proofs.Closes.{ready-nearly, shut-newest}
use Rattle.ap_section.proofs.Redoes.{next-now}
use Rattle.ap_section.proofs.Newest.{Top, last-of, length-before, view-top, view-newest, ready-newest, put_at}

pub ruleset numbered_rules = (changed_more, changed_all)

-- ---- slots as they are shown

bare-left : (m : Bool) (s : Option Section) → bare_section (left_of m s) ≡ left_of m (bare_section s)
bare-left true s = refl
bare-left false s = refl

bare-emptied : (y : Stand Section) → bare (emptied_stand y) ≡ emptied_stand (bare y)
bare-emptied Ready = refl
bare-emptied Waiting = refl
bare-emptied (Running r) = refl
bare-emptied (Answered a) = ap (λ s. Answered (record { section = s; cost = a.cost; has_more = a.has_more })) (bare-left a.has_more a.section)
bare-emptied (Replayed k) = refl
bare-emptied (Ended e c) = refl
bare-emptied GivenBack = refl

held-left : (m : Bool) (s : Option Section) → held_own (left_of m s) ≡ hold_of m (held_own s)
held-left true s = refl
held-left false s = refl

held-emptied : (y : Stand Section) → held_now (emptied_stand y) ≡ hold_by (bare y) (held_now y)
held-emptied Ready = refl
held-emptied Waiting = refl
held-emptied (Running r) = refl
held-emptied (Answered a) = held-left a.has_more a.section
held-emptied (Replayed k) = refl
held-emptied (Ended e c) = refl
held-emptied GivenBack = refl

row-emptied : (x : Slot Section Trees) → row_of (emptied x) ≡ emptied (row_of x)
row-emptied x = ap (λ y. record { stand = y; is_loud = x.is_loud; recording = x.recording; tuples = x.tuples; mark = x.mark }) (bare-emptied x.stand)

slot-emptied : (b : Bool) (x : Slot Section Trees) (w : Slots) → b ≡ true
    → slot (row_of (if b then emptied x else x)) (held_now (if b then emptied x else x).stand) w ≡ slot (emptied (row_of x)) (hold_by (bare x.stand) (held_now x.stand)) w
slot-emptied b x w e = ap (λ c. slot (row_of (if c then emptied x else x)) (held_now (if c then emptied x else x).stand) w) e ∙ ap₂ (λ r h. slot r h w) (row-emptied x) (held-emptied x.stand)

slot-stays : (b : Bool) (x : Slot Section Trees) (w : Slots) → b ≡ false → slot (row_of (if b then emptied x else x)) (held_now (if b then emptied x else x).stand) w ≡ slot (row_of x) (held_now x.stand) w
slot-stays b x w e = ap (λ c. slot (row_of (if c then emptied x else x)) (held_now (if c then emptied x else x).stand) w) e

all-emptied : (i n : ℕ) (xs : List (Slot Section Trees)) → i < n → slots_now (numbered (behind emptied i) n xs) ≡ emptied_behind zero (slots_now xs)
all-emptied i n [] h = refl
all-emptied i n (x ∷ xs) h = slot-emptied (nat_lt i n) x (slots_now (numbered (behind emptied i) (n + 1) xs)) (lt-ltb i n h)
    ∙ ap (slot (emptied (row_of x)) (hold_by (bare x.stand) (held_now x.stand))) (all-emptied i (n + 1) xs (omega (arith, h)))

behind-emptied : (i j n : ℕ) (xs : List (Slot Section Trees)) → i ≡ n + j → slots_now (numbered (behind emptied i) (n + 1) xs) ≡ emptied_behind j (slots_now xs)
behind-emptied i j n [] e = refl
behind-emptied i zero n (x ∷ xs) e = all-emptied i (n + 1) (x ∷ xs) (omega (arith, e))
behind-emptied i (suc j) n (x ∷ xs) e = slot-stays (nat_lt i (n + 1)) x (slots_now (numbered (behind emptied i) ((n + 1) + 1) xs)) (le-ltb i (n + 1) (omega (arith, e)))
    ∙ ap (slot (row_of x) (held_now x.stand)) (behind-emptied i j (n + 1) xs (omega (arith, e)))

emptied-shown : (i : ℕ) (xs : List (Slot Section Trees)) → slots_now (numbered (behind emptied i) 1 xs) ≡ emptied_behind i (slots_now xs)
emptied-shown i xs = behind-emptied i i 0 xs (omega arith)

-- ---- slots that are ready stay so

left-ready : (code : Compiled) (m : Bool) (s : Option Section) → HeldReady code s → HeldReady code (left_of m s)
left-ready code true s h = h
left-ready code false s h = tt

stand-ready : (code : Compiled) (y : Stand Section) → StandReady code y → StandReady code (emptied_stand y)
stand-ready code Ready h = tt
stand-ready code Waiting h = tt
stand-ready code (Running r) h = tt
stand-ready code (Answered a) h = left-ready code a.has_more a.section h
stand-ready code (Replayed k) h = tt
stand-ready code (Ended e c) h = tt
stand-ready code GivenBack h = tt

slot-ready : (code : Compiled) (b : Bool) (x : Slot Section Trees) → StandReady code x.stand → StandReady code (if b then emptied x else x).stand
slot-ready code true x h = stand-ready code x.stand h
slot-ready code false x h = h

slots-ready : (code : Compiled) (i n : ℕ) (xs : List (Slot Section Trees)) → SlotsReady code xs → SlotsReady code (numbered (behind emptied i) n xs)
slots-ready code i n [] h = tt
slots-ready code i n (x ∷ xs) h = (slot-ready code (nat_lt i n) x h.0, slots-ready code i (n + 1) xs h.1)

-- ---- the newest frame

top-some : (s : Section) (n : ℕ) (f : Frame Section Trees) → n ≡ count_in s → 0 < n → f ≡ get_or (out-Section s).frames.items (n - 1) f → Top s f
top-some s n f e some v = go (out-Section s).frames.items refl
  where
    go : (xs : List (Frame Section Trees)) → xs ≡ (out-Section s).frames.items → Top s f
    go [] q =
        let none : n ≡ 0 = e ∙ (out-Section s).frames.ok.0 ∙ ap length (sym q) in
        absurd (let l : 0 < 0 = subst (λ k. 0 < k) none some in omega (arith, l))
    go (y ∷ ys) q =
        let r = last-of y ys in
        let whole : (out-Section s).frames.items ≡ r.0 ++ r.1 ∷ [] = sym q ∙ r.2 in
        let same : f ≡ r.1 = v ∙ ap (λ k. get_or (out-Section s).frames.items (k - 1) f) e ∙ ap (λ xs. get_or xs (count_in s - 1) f) whole ∙ get_or_at r.0 r.1 [] f (count_in s - 1) (length-before (out-Section s).frames r.0 r.1 whole) in
        record { before = r.0; items = whole ∙ ap (λ z. r.0 ++ z ∷ []) (sym same) }

-- there is one newest frame
one-newest : (s : Section) (n : ℕ) (f d : Frame Section Trees) → n ≡ count_in s → 0 < n → f ≡ get_or (out-Section s).frames.items (n - 1) f → d ≡ get_or (out-Section s).frames.items (n - 1) d → d ≡ f
one-newest s n f d e some v w =
    let xs = (out-Section s).frames.items in
    let inside : n - 1 < length xs = omega (arith, e, (out-Section s).frames.ok.0, some) in
    w ∙ same_Some _ _ (sym (slice_get-get_or xs (n - 1) d inside) ∙ slice_get-get_or xs (n - 1) f inside) ∙ sym v

abbrev HasEmptied : Frame Section Trees → Frame Section Trees → ℕ → Type 0
HasEmptied f h i = row h ≡ with_slots (numbered (behind emptied i) 1 f.slots.items) (row f)

stack-emptied : (gs : List Segment) (fs : List (Frame Section Trees)) (f h : Frame Section Trees) (i : ℕ) → HasEmptied f h i → stack_now gs (h ∷ fs) ≡ emptied_stack i (stack_now gs (f ∷ fs))
stack-emptied [] fs f h i e = refl
stack-emptied (g ∷ gs) fs f h i e = ap (λ r. parcall g.forked r.rest r.round (slots_now r.slots) g.points (stack_now gs fs)) e
    ∙ ap (λ w. parcall g.forked f.rest f.round w g.points (stack_now gs fs)) (emptied-shown i f.slots.items)

shape-emptied : (f h : Frame Section Trees) (i : ℕ) → HasEmptied f h i → shape_of h ≡ shape_of f
shape-emptied f h i e = ap (λ r. record { rest = r.rest; round = r.round; count = length r.slots }) e ∙ ap (λ n. record { rest = f.rest; round = f.round; count = n }) (length-numbered (behind emptied i) 1 f.slots.items)

-- ---- what it is to the section

pub goes-same : (code : Compiled) (v : seen.Section) → Goes code v v
goes-same code v = λ p o t searched tied. ([], t, refl, tied)

pub owes-none : (v : seen.Section) → OwesNoMore v v
owes-none (section m c b st) = record { budget = refl; owes = omega arith }

goes-emptied : (law : SettlingLaw) (code : Compiled) (p : Paused) (gs : List Segment) (f : Frame Section Trees) (fs : List (Frame Section Trees)) (i : ℕ) → f.round ≡ Closed
    → Goes code (section p.machine p.spent p.budget (stack_now gs (f ∷ fs))) (emptied_in i (section p.machine p.spent p.budget (stack_now gs (f ∷ fs))))
goes-emptied law code p [] f fs i e = goes-same code _
goes-emptied law code p (g ∷ gs) f fs i e =
    let w = slots_now f.slots.items in
    subst (λ (rd : Round). Goes code (section p.machine p.spent p.budget (parcall g.forked f.rest rd w g.points (stack_now gs fs))) (section p.machine p.spent p.budget (parcall g.forked f.rest rd (emptied_behind i w) g.points (stack_now gs fs)))) (sym e)
    (law.empties code p.machine p.spent p.budget g.forked f.rest i w g.points (stack_now gs fs))

owes-emptied : (p : Paused) (gs : List Segment) (f : Frame Section Trees) (fs : List (Frame Section Trees)) (i : ℕ) → f.round ≡ Closed
    → OwesNoMore (section p.machine p.spent p.budget (stack_now gs (f ∷ fs))) (emptied_in i (section p.machine p.spent p.budget (stack_now gs (f ∷ fs))))
owes-emptied p [] f fs i e = owes-none _
owes-emptied p (g ∷ gs) f fs i e =
    let w = slots_now f.slots.items in
    subst (λ (rd : Round). OwesNoMore (section p.machine p.spent p.budget (parcall g.forked f.rest rd w g.points (stack_now gs fs))) (section p.machine p.spent p.budget (parcall g.forked f.rest rd (emptied_behind i w) g.points (stack_now gs fs)))) (sym e)
    (record { budget = refl; owes = omega arith })

-- of the newest frame's slots less is left in the new one
pub record Empties (s new : Section) : Type 0 where
  pub goes : (code : Compiled) → Goes code (view_of s) (view_of new)
  pub ready : (code : Compiled) → IsReady code s → IsReady code new
  pub owes : OwesNoMore (view_of s) (view_of new)

empties-newest : (law : SettlingLaw) (s : Section) (f h : Frame Section Trees) (i : ℕ) (t : Top s f) → f.round ≡ Closed → HasEmptied f h i → Empties s (with_newest s h)
empties-newest law s f h i t closed e =
    let p = (out-Section s).search in
    let fs = reverse t.before in
    let old = view-top s f t in
    let new : view_of (with_newest s h) ≡ emptied_in i (seen_as p (f ∷ fs)) = view-newest s f h t ∙ ap (λ st. section p.machine p.spent p.budget st) (stack-emptied p.older fs f h i e) in
    record {
      goes = λ code. subst (λ v. Goes code v (view_of (with_newest s h))) (sym old) (subst (Goes code (seen_as p (f ∷ fs))) (sym new) (goes-emptied law code p p.older f fs i closed));
      ready = λ code. ready-newest code s f h t (shape-emptied f h i e) (λ xs. subst (λ r. SlotsReady code r.slots) (sym e) (slots-ready code i 1 f.slots.items xs));
      owes = subst (λ v. OwesNoMore v (view_of (with_newest s h))) (sym old) (subst (OwesNoMore (seen_as p (f ∷ fs))) (sym new) (owes-emptied p p.older f fs i closed));
    }

-- ---- a frame that is cleared

abbrev HasCleared : Frame Section Trees → Frame Section Trees → Type 0
HasCleared f h = row h ≡ with_slots [] (row f)

abbrev cleared_stack : Stack → Stack
cleared_stack bottom = bottom
cleared_stack (parcall f q rd w qs st) = parcall f q rd no_slot qs st

stack-cleared : (gs : List Segment) (fs : List (Frame Section Trees)) (f h : Frame Section Trees) → HasCleared f h → stack_now gs (h ∷ fs) ≡ cleared_stack (stack_now gs (f ∷ fs))
stack-cleared [] fs f h e = refl
stack-cleared (g ∷ gs) fs f h e = ap (λ r. parcall g.forked r.rest r.round (slots_now r.slots) g.points (stack_now gs fs)) e

goes-cleared : (law : SettlingLaw) (code : Compiled) (p : Paused) (gs : List Segment) (f : Frame Section Trees) (fs : List (Frame Section Trees)) → f.round ≡ Closed → next_redo f.slots.items ≡ None
    → Goes code (section p.machine p.spent p.budget (stack_now gs (f ∷ fs))) (section p.machine p.spent p.budget (cleared_stack (stack_now gs (f ∷ fs))))
goes-cleared law code p [] f fs e none = goes-same code _
goes-cleared law code p (g ∷ gs) f fs e none =
    let w = slots_now f.slots.items in
    subst (λ (rd : Round). Goes code (section p.machine p.spent p.budget (parcall g.forked f.rest rd w g.points (stack_now gs fs))) (section p.machine p.spent p.budget (parcall g.forked f.rest rd no_slot g.points (stack_now gs fs)))) (sym e)
    (law.clears code p.machine p.spent p.budget g.forked f.rest w g.points (stack_now gs fs) (next-now f.slots.items ∙ none))

owes-cleared : (p : Paused) (gs : List Segment) (f : Frame Section Trees) (fs : List (Frame Section Trees)) → f.round ≡ Closed
    → OwesNoMore (section p.machine p.spent p.budget (stack_now gs (f ∷ fs))) (section p.machine p.spent p.budget (cleared_stack (stack_now gs (f ∷ fs))))
owes-cleared p [] f fs e = owes-none _
owes-cleared p (g ∷ gs) f fs e =
    let w = slots_now f.slots.items in
    subst (λ (rd : Round). OwesNoMore (section p.machine p.spent p.budget (parcall g.forked f.rest rd w g.points (stack_now gs fs))) (section p.machine p.spent p.budget (parcall g.forked f.rest rd no_slot g.points (stack_now gs fs)))) (sym e)
    (record { budget = refl; owes = omega arith })

clears-newest : (law : SettlingLaw) (s : Section) (f h : Frame Section Trees) (t : Top s f) → f.round ≡ Closed → next_redo f.slots.items ≡ None → HasCleared f h → Empties s (with_newest s h)
clears-newest law s f h t closed none e =
    let p = (out-Section s).search in
    let fs = reverse t.before in
    let old = view-top s f t in
    let over : h.round ≡ Closed = ap (λ r. r.round) e ∙ closed in
    let new : view_of (with_newest s h) ≡ section p.machine p.spent p.budget (cleared_stack (stack_now p.older (f ∷ fs))) = view-newest s f h t ∙ ap (section p.machine p.spent p.budget) (stack-cleared p.older fs f h e) in
    record {
      goes = λ code. subst (λ v. Goes code v (view_of (with_newest s h))) (sym old) (subst (Goes code (seen_as p (f ∷ fs))) (sym new) (goes-cleared law code p p.older f fs closed none));
      ready = λ code r. shut-newest code s f h t over (λ n k. inr (over, ap (λ r. length r.slots) e)) (λ xs. subst (λ r. SlotsReady code r.slots) (sym e) tt) (ready-nearly code s r);
      owes = subst (λ v. OwesNoMore v (view_of (with_newest s h))) (sym old) (subst (OwesNoMore (seen_as p (f ∷ fs))) (sym new) (owes-cleared p p.older f fs closed));
    }

-- ---- either

kept-newest : (law : SettlingLaw) (s : Section) (f h : Frame Section Trees) (t : Top s f) → f.round ≡ Closed → row h ≡ with_slots (kept_of f.slots.items) (row f) → Empties s (with_newest s h)
kept-newest law s f h t closed e = go (next_redo f.slots.items) refl e
  where
    go : (o : Option ℕ) → next_redo f.slots.items ≡ o → row h ≡ with_slots (kept_by o f.slots.items) (row f) → Empties s (with_newest s h)
    go (Some i) n d = empties-newest law s f h i t closed d
    go None n d = clears-newest law s f h t closed n d

pub empties : (law : SettlingLaw) (s : Section) (n : ℕ) (f d h : Frame Section Trees) → n ≡ count_in s → 0 < n → f ≡ get_or (out-Section s).frames.items (n - 1) f
    → d ≡ get_or (out-Section s).frames.items (n - 1) d → d.round ≡ Closed → row h ≡ with_slots (kept_of f.slots.items) (row f) → Empties s (put_at s n h)
empties law s n f d h e some v w closed r =
    let over : f.round ≡ Closed = ap (λ (z : Frame Section Trees). z.round) (sym (one-newest s n f d e some v w)) ∙ closed in
    subst (λ k. Empties s (put_at s k h)) (sym e) (kept-newest law s f h (top-some s n f e some v) over r)
