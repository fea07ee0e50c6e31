-- A section whose newest frame changes.
use Rattle.std.proofs.Common.{◌≡◌, ◌∙◌, ℕ, zero, suc, ◌-◌, ◌<◌, ◌≤◌, List, [], ◌∷◌, ◌++◌, length, slice_get, reverse, map, ap, sym, subst, refl, Some, None, Bool, true, false, get_or, inl, inr}
use Rattle.std.proofs.lemmas.List.{reverse-append, set_at, length_push, get_or_at}
use Rattle.std.proofs.Common.{Vec, Global, vec_len, rules}
use lib.ListN.{set}
use Rattle.std.specs.Vec.{with_item}
use Rattle.ap_term.specs.Tree.{Trees}
use Rattle.ap_tie.specs.Sections.{Row, section, Slots, slot, nothing, Stack, parcall, rows}
use Rattle.ap_frames.specs.declared.frame.Frame.{Frame}
use Rattle.ap_frames.specs.declared.slots.Slot.{Slot}
use Rattle.ap_frames.specs.declared.slots.Stand.{Stand}
use Rattle.ap_frames.specs.declared.slots.Stand.TheVariants.{Ready, Waiting, Running, Answered, Replayed, Ended, GivenBack}
use Rattle.ap_frames.specs.Slots.{stands_startable, stands_running, stands_first, is_startable, is_running, may_be_given_back}
use Rattle.ap_frames.specs.Rows.{row, at_place, standing, slot_at, IsAt, IsPlace}
use Rattle.ap_frames.specs.Rows as frames
use Rattle.ap_machine.specs.View.{Segment, Paused, IsFor}
use Rattle.ap_standing.specs.Machine.{failed}
use Rattle.ap_instr.specs.Code.{Compiled}
use Rattle.ap_tied.specs.SlotCalls.{stood_in, stood_stack, stood}
use Rattle.ap_section.specs.declared.section.Section.{Section, roll-Section, out-Section}
use Rattle.ap_section.specs.Views.{view_of, row_of, bare}
use Rattle.ap_section.specs.Ready.{Shape, shape_of, AreMatched, AreShut, AreInOrder, IsAtNewest, IsReady, IsReadyPart}
use Rattle.ap_section.specs.Slots.{IsAtFrame, IsPlaceIn, told_of, slots_in, round_in, redone_of, redone_in}
use Rattle.ap_section.specs.Lending.{count_in, with_newest}
use Rattle.ap_frames.specs.declared.frame.Round.{Round}
use Rattle.ap_frames.specs.declared.frame.Round.TheVariants.{First, Draining, Later, Closed}
use Rattle.ap_tie.specs.Settled.{AreClosed}
use Rattle.ap_tied.specs.Ties.{stack_in}
use Rattle.ap_section.proofs.Levels.{held_now, slots_now, stack_now, seen_as, view_of-out, view_of-roll}
use Rattle.ap_section.proofs.Stood.{one-less, at-stood, place-stood}
use Rattle.ap_section.proofs.Parts.{HeldReady, StandReady, SlotsReady, FramesReady, part_now, ready-out, ready-roll, out-shut}

false_true : false ≡ true → ⊥
false_true h = search rules

-- ---- the newest one

-- the last frame is f, and those before it are these
pub record Top (s : Section) (f : Frame Section Trees) : Type 0 where
  pub before : List (Frame Section Trees)
  pub items : (out-Section s).frames.items ≡ before ++ f ∷ []

pub last-of : {A : Type 0} (x : A) (xs : List A) → (before : List A) × (y : A) × (x ∷ xs ≡ before ++ y ∷ [])
last-of x [] = ([], x, refl)
last-of x (z ∷ zs) = let r = last-of z zs in (x ∷ r.0, r.1, ap (λ ws. x ∷ ws) r.2)

pub length-before : {A : Type 0} (v : Vec A Global) (xs : List A) (y : A) → v.items ≡ xs ++ y ∷ [] → length xs ≡ vec_len v - 1
length-before v xs y e = let h = v.ok.0 ∙ ap length e ∙ length_push xs y in search rules

pub set-last : {A : Type 0} (v : Vec A Global) (xs : List A) (y z : A) → v.items ≡ xs ++ y ∷ [] → (with_item v (vec_len v - 1) z).items ≡ xs ++ z ∷ []
set-last v xs y z e = ap (λ ws. set ws (vec_len v - 1) z) e ∙ set_at xs y [] z (vec_len v - 1) (length-before v xs y e)

pub view-top : (s : Section) (f : Frame Section Trees) (t : Top s f) → view_of s ≡ seen_as (out-Section s).search (f ∷ reverse t.before)
view-top s f t = view_of-out s ∙ ap (λ fs. seen_as (out-Section s).search (reverse fs)) t.items ∙ ap (seen_as (out-Section s).search) (reverse-append t.before (f ∷ []))

pub view-newest : (s : Section) (f h : Frame Section Trees) (t : Top s f) → view_of (with_newest s h) ≡ seen_as (out-Section s).search (h ∷ reverse t.before)
view-newest s f h t = view_of-roll (record (out-Section s) { frames = with_item (out-Section s).frames (vec_len (out-Section s).frames - 1) h })
    ∙ ap (λ fs. seen_as (out-Section s).search (reverse fs)) (set-last (out-Section s).frames t.before f h t.items) ∙ ap (seen_as (out-Section s).search) (reverse-append t.before (h ∷ []))

-- ---- slots

pub stood-now : (i : ℕ) (y : Stand Section) (xs : List (Slot Section Trees)) → slots_now (at_place (standing y) i xs) ≡ stood_in (suc i) (bare y) (held_now y) (slots_now xs)
stood-now i y [] = refl
stood-now zero y (x ∷ xs) = refl
stood-now (suc i) y (x ∷ xs) = ap (slot (row_of x) (held_now x.stand)) (stood-now i y xs)

pub ready-stood : (code : Compiled) (i : ℕ) (y : Stand Section) (xs : List (Slot Section Trees)) → StandReady code y → SlotsReady code xs → SlotsReady code (at_place (standing y) i xs)
ready-stood code i y [] h k = tt
ready-stood code zero y (x ∷ xs) h k = (h, k.1)
ready-stood code (suc i) y (x ∷ xs) h k = (k.0, ready-stood code i y xs h k.1)

pub length-at_place : (y : Stand Section) (i : ℕ) (xs : List (Slot Section Trees)) → length (at_place (standing y) i xs) ≡ length xs
length-at_place y i [] = refl
length-at_place y zero (x ∷ xs) = refl
length-at_place y (suc i) (x ∷ xs) = ap suc (length-at_place y i xs)

pub length-rows : (xs : List (Slot Section Trees)) → length (rows (slots_now xs)) ≡ length xs
length-rows [] = refl
length-rows (x ∷ xs) = ap suc (length-rows xs)

-- ---- the frame at which a section stands

no-stack : (p : Paused) (gs : List Segment) → IsAtFrame (section p.machine p.spent p.budget (stack_now gs [])) → ⊥
no-stack p [] h = h
no-stack p (g ∷ gs) h = h

has-last : (p : Paused) (fs : List (Frame Section Trees)) → IsAtFrame (seen_as p (reverse fs)) → (before : List (Frame Section Trees)) × (y : Frame Section Trees) × (fs ≡ before ++ y ∷ [])
has-last p [] h = absurd (no-stack p p.older h)
has-last p (f ∷ fs) h = last-of f fs

pub count-at : (s : Section) → IsAtFrame (view_of s) → 0 < count_in s
count-at s h =
    let r = has-last (out-Section s).search (out-Section s).frames.items (subst IsAtFrame (view_of-out s) h) in
    let e = (out-Section s).frames.ok.0 ∙ ap length r.2 ∙ length_push r.0 r.1 in search rules

pub top-at : (s : Section) (n : ℕ) (f : Frame Section Trees) → n ≡ count_in s → IsAtFrame (view_of s) → f ≡ get_or (out-Section s).frames.items (n - 1) f → Top s f
top-at s n f e h v =
    let r = has-last (out-Section s).search (out-Section s).frames.items (subst IsAtFrame (view_of-out s) h) in
    let same : f ≡ r.1 = v ∙ ap (λ k. get_or (out-Section s).frames.items (k - 1) f) e ∙ ap (λ xs. get_or xs (count_in s - 1) f) r.2 ∙ get_or_at r.0 r.1 [] f (count_in s - 1) (length-before (out-Section s).frames r.0 r.1 r.2) in
    record { before = r.0; items = r.2 ∙ ap (λ y. r.0 ++ y ∷ []) (sym same) }

-- ---- a slot stands otherwise

stack-stood : (gs : List Segment) (fs : List (Frame Section Trees)) (f h : Frame Section Trees) (i : ℕ) (y : Stand Section) → row h ≡ frames.stood i y (row f)
    → stack_now gs (h ∷ fs) ≡ stood_stack (suc (i - 1)) (bare y) (held_now y) (stack_now gs (f ∷ fs))
stack-stood [] fs f h i y e = refl
stack-stood (g ∷ gs) fs f h i y e = ap (λ r. parcall g.forked r.rest r.round (slots_now r.slots) g.points (stack_now gs fs)) e
    ∙ ap (λ w. parcall g.forked f.rest f.round w g.points (stack_now gs fs)) (stood-now (i - 1) y f.slots.items)

pub frames-join : (code : Compiled) (fs gs : List (Frame Section Trees)) → FramesReady code fs → FramesReady code gs → FramesReady code (fs ++ gs)
frames-join code [] gs h k = k
frames-join code (f ∷ fs) gs h k = (h.0, frames-join code fs gs h.1 k)

pub frames-front : (code : Compiled) (fs gs : List (Frame Section Trees)) → FramesReady code (fs ++ gs) → FramesReady code fs
frames-front code [] gs h = tt
frames-front code (f ∷ fs) gs h = (h.0, frames-front code fs gs h.1)

pub frames-back : (code : Compiled) (fs gs : List (Frame Section Trees)) → FramesReady code (fs ++ gs) → FramesReady code gs
frames-back code [] gs h = h
frames-back code (f ∷ fs) gs h = frames-back code fs gs h.1

-- a section stays ready where its newest frame has the same shape and its slots stay ready
pub ready-newest : (code : Compiled) (s : Section) (f h : Frame Section Trees) (t : Top s f) → shape_of h ≡ shape_of f → (SlotsReady code f.slots.items → SlotsReady code h.slots.items)
    → IsReady code s → IsReady code (with_newest s h)
ready-newest code s f h t same slots r =
    let k = ready-out code s r in
    let frames = subst (FramesReady code) t.items k.1 in
    let items = set-last (out-Section s).frames t.before f h t.items in
    let old : map shape_of (reverse (out-Section s).frames.items) ≡ shape_of f ∷ map shape_of (reverse t.before) = ap (λ fs. map shape_of (reverse fs)) t.items ∙ ap (map shape_of) (reverse-append t.before (f ∷ [])) in
    let new : map shape_of (reverse (with_item (out-Section s).frames (vec_len (out-Section s).frames - 1) h).items) ≡ shape_of h ∷ map shape_of (reverse t.before) =
    ap (λ fs. map shape_of (reverse fs)) items ∙ ap (map shape_of) (reverse-append t.before (h ∷ [])) in
    let shapes = old ∙ ap (λ a. a ∷ map shape_of (reverse t.before)) (sym same) ∙ sym new in
    ready-roll code (record (out-Section s) { frames = with_item (out-Section s).frames (vec_len (out-Section s).frames - 1) h }) (
      subst (λ bs. IsReadyPart code (record { search = (out-Section s).search; frames = bs })) shapes k.0,
      subst (FramesReady code) (sym items) (frames-join code t.before (h ∷ []) (frames-front code t.before (f ∷ []) frames) (slots (frames-back code t.before (f ∷ []) frames).0, tt)),
    )

shape-stood : (f h : Frame Section Trees) (i : ℕ) (y : Stand Section) → row h ≡ frames.stood i y (row f) → shape_of h ≡ shape_of f
shape-stood f h i y e = ap (λ r. record { rest = r.rest; round = r.round; count = length r.slots }) e ∙ ap (λ n. record { rest = f.rest; round = f.round; count = n }) (length-at_place y (i - 1) f.slots.items)

-- its i-th slot stands so in the new one
pub record Called (s new : Section) (i : ℕ) (y : Stand Section) : Type 0 where
  pub stands : view_of new ≡ stood i (bare y) (held_now y) (view_of s)
  pub at_frame : IsAtFrame (view_of new)
  pub place : IsPlaceIn i (view_of new)
  pub ready : (code : Compiled) → StandReady code y → IsReady code s → IsReady code new

called-newest : (s : Section) (f h : Frame Section Trees) (i : ℕ) (y : Stand Section) (t : Top s f) → IsAtFrame (view_of s) → IsPlaceIn i (view_of s) → row h ≡ frames.stood i y (row f) → Called s (with_newest s h) i y
called-newest s f h i y t at place e =
    let p = (out-Section s).search in
    let stands : view_of (with_newest s h) ≡ stood i (bare y) (held_now y) (view_of s) =
    view-newest s f h t ∙ ap (λ st. section p.machine p.spent p.budget st) (stack-stood p.older (reverse t.before) f h i y e)
    ∙ ap (λ k. stood k (bare y) (held_now y) (seen_as p (f ∷ reverse t.before))) (one-less i place.0) ∙ ap (stood i (bare y) (held_now y)) (sym (view-top s f t)) in
    record {
      stands = stands;
      at_frame = subst IsAtFrame (sym stands) (at-stood i (bare y) (held_now y) (view_of s) at);
      place = subst (IsPlaceIn i) (sym stands) (place-stood i i (bare y) (held_now y) (view_of s) place);
      ready = λ code k r. ready-newest code s f h t (shape-stood f h i y e) (λ xs. subst (λ r. SlotsReady code r.slots) (sym e) (ready-stood code (i - 1) y f.slots.items k xs)) r;
    }

abbrev pub put_at : Section → ℕ → Frame Section Trees → Section
put_at s n h = roll-Section (record (out-Section s) { frames = with_item (out-Section s).frames (n - 1) h })

pub called : (s : Section) (n : ℕ) (f h : Frame Section Trees) (i : ℕ) (y : Stand Section) → n ≡ count_in s → IsAtFrame (view_of s) → IsPlaceIn i (view_of s) → f ≡ get_or (out-Section s).frames.items (n - 1) f
    → row h ≡ frames.stood i y (row f) → Called s (put_at s n h) i y
called s n f h i y e at place v r = subst (λ k. Called s (put_at s k h) i y) (sym e) (called-newest s f h i y (top-at s n f e at v) at place r)

-- ---- what is read of a slot

pub length-stack : (p : Paused) (gs : List Segment) (f : Frame Section Trees) (fs : List (Frame Section Trees)) → IsAtFrame (section p.machine p.spent p.budget (stack_now gs (f ∷ fs)))
    → slots_in (section p.machine p.spent p.budget (stack_now gs (f ∷ fs))) ≡ slots_now f.slots.items
length-stack p [] f fs h = absurd h
length-stack p (g ∷ gs) f fs h = refl

pub slots-at : (s : Section) (f : Frame Section Trees) → Top s f → IsAtFrame (view_of s) → slots_in (view_of s) ≡ slots_now f.slots.items
slots-at s f t h = ap slots_in (view-top s f t) ∙ length-stack (out-Section s).search (out-Section s).search.older f (reverse t.before) (subst IsAtFrame (view-top s f t) h)

pub place-at : (s : Section) (n : ℕ) (f : Frame Section Trees) (i : ℕ) → n ≡ count_in s → IsAtFrame (view_of s) → f ≡ get_or (out-Section s).frames.items (n - 1) f → IsPlaceIn i (view_of s) → IsPlace i (row f)
place-at s n f i e at v h = (h.0, subst (λ k. i ≤ k) (ap (λ w. length (rows w)) (slots-at s f (top-at s n f e at v) at) ∙ length-rows f.slots.items) h.1)

told-now : (P : Slot Section Trees → Bool) (Q : Row → Bool) → ((x : Slot Section Trees) → Q (row_of x) ≡ P x) → (k : ℕ) (xs : List (Slot Section Trees)) → frames.of_slot Q false (slice_get (rows (slots_now xs)) k) ≡ true
    → (x : Slot Section Trees) × (slice_get xs k ≡ Some x) × (P x ≡ true)
told-now P Q same zero [] h = absurd (false_true h)
told-now P Q same (suc k) [] h = absurd (false_true h)
told-now P Q same zero (x ∷ xs) h = (x, refl, sym (same x) ∙ h)
told-now P Q same (suc k) (x ∷ xs) h = told-now P Q same k xs h

pub told-at : (P : Slot Section Trees → Bool) (Q : Row → Bool) → ((x : Slot Section Trees) → Q (row_of x) ≡ P x) → (s : Section) (n : ℕ) (f : Frame Section Trees) (i : ℕ) → n ≡ count_in s → IsAtFrame (view_of s)
    → f ≡ get_or (out-Section s).frames.items (n - 1) f → told_of Q i (view_of s) ≡ true → IsAt P i (row f)
told-at P Q same s n f i e at v h = told-now P Q same (i - 1) f.slots.items (ap (λ w. frames.of_slot Q false (slice_get (rows w) (i - 1))) (sym (slots-at s f (top-at s n f e at v) at)) ∙ h)

startable-stand : (y : Stand Section) → stands_startable (bare y) ≡ stands_startable y
startable-stand Ready = refl
startable-stand Waiting = refl
startable-stand (Running r) = refl
startable-stand (Answered a) = refl
startable-stand (Replayed k) = refl
startable-stand (Ended e c) = refl
startable-stand GivenBack = refl

running-stand : (y : Stand Section) → stands_running (bare y) ≡ stands_running y
running-stand Ready = refl
running-stand Waiting = refl
running-stand (Running r) = refl
running-stand (Answered a) = refl
running-stand (Replayed k) = refl
running-stand (Ended e c) = refl
running-stand GivenBack = refl

pub startable-row : (x : Slot Section Trees) → is_startable (row_of x) ≡ is_startable x
startable-row x = startable-stand x.stand

pub running-row : (x : Slot Section Trees) → is_running (row_of x) ≡ is_running x
running-row x = running-stand x.stand

given-back-stand : (y : Stand Section) → stands_first (bare y) ≡ stands_first y
given-back-stand Ready = refl
given-back-stand Waiting = refl
given-back-stand (Running r) = refl
given-back-stand (Answered a) = refl
given-back-stand (Replayed k) = refl
given-back-stand (Ended e c) = refl
given-back-stand GivenBack = refl

pub given-back-row : (x : Slot Section Trees) → may_be_given_back (row_of x) ≡ may_be_given_back x
given-back-row x = given-back-stand x.stand

-- ---- a section that is put into a slot

shut-round : (g : Segment) (q : ℕ) (rd : Round) (w : Slots) (st : Stack) → AreClosed (parcall g.forked q rd w g.points st) → (rd ≡ Closed) × AreClosed st
shut-round g q Closed w st h = (refl, h)
shut-round g q First w st h = absurd h
shut-round g q (Draining n) w st h = absurd h
shut-round g q (Later i) w st h = absurd h

shut-shapes : (code : Compiled) (gs : List Segment) (fs : List (Frame Section Trees)) → AreMatched code gs (map shape_of fs) → AreClosed (stack_now gs fs) → AreShut (map shape_of fs)
shut-shapes code [] [] h k = tt
shut-shapes code [] (f ∷ fs) h k = absurd h
shut-shapes code (g ∷ gs) [] h k = absurd h
shut-shapes code (g ∷ gs) (f ∷ fs) h k = let r = shut-round g f.rest f.round (slots_now f.slots.items) (stack_now gs fs) k in (r.0, shut-shapes code gs fs h.2 r.1)

pub held-ready : (code : Compiled) (s : Section) → AreClosed (stack_in (view_of s)) → IsReady code s → HeldReady code (Some s)
held-ready code s h r =
    let k = ready-out code s r in
    out-shut code s ((k.0.0, k.0.1, shut-shapes code (out-Section s).search.older (reverse (out-Section s).frames.items) k.0.1 (subst (λ v. AreClosed (stack_in v)) (view_of-out s) h)), k.1)

-- ---- a slot that has stopped

pub bare-stopped : (b : Bool) (n : ℕ) → bare (frames.stopped Section b n) ≡ frames.stopped (Unit {0}) b n
bare-stopped true n = refl
bare-stopped false n = refl

pub held-stopped : (b : Bool) (n : ℕ) → held_now (frames.stopped Section b n) ≡ nothing
held-stopped true n = refl
held-stopped false n = refl

pub ready-stopped : (code : Compiled) (b : Bool) (n : ℕ) → StandReady code (frames.stopped Section b n)
ready-stopped code true n = tt
ready-stopped code false n = tt

-- ---- the round

round-stack : (p : Paused) (gs : List Segment) (f : Frame Section Trees) (fs : List (Frame Section Trees)) → IsAtFrame (section p.machine p.spent p.budget (stack_now gs (f ∷ fs)))
    → round_in (section p.machine p.spent p.budget (stack_now gs (f ∷ fs))) ≡ f.round
round-stack p [] f fs h = absurd h
round-stack p (g ∷ gs) f fs h = refl

pub round-at : (s : Section) (f : Frame Section Trees) → Top s f → IsAtFrame (view_of s) → round_in (view_of s) ≡ f.round
round-at s f t h = ap round_in (view-top s f t) ∙ round-stack (out-Section s).search (out-Section s).search.older f (reverse t.before) (subst IsAtFrame (view-top s f t) h)

-- ---- a section whose machine leaves its answer

abbrev pub failing : Paused → Paused
failing p = record p { machine = record p.machine { now = failed } }

newest-failing : (p : Paused) (gs : List Segment) (a : Shape) → IsAtNewest p gs a → IsAtNewest (failing p) gs a
newest-failing p [] a h = h
newest-failing p (g ∷ gs) a h = (record { now = refl; returns = h.0.returns; roots_stay = h.0.roots_stay; points = h.0.points }, h.1, h.2, h.3)

order-failing : (p : Paused) (a : Shape) (bs : List Shape) → AreInOrder p (a ∷ bs) → AreInOrder (failing p) (a ∷ bs)
order-failing p a bs (inl e, k) = (inl e, k)
order-failing p a bs (inr h, k) = (inr (newest-failing p p.older a h), k)

in-order-failing : (p : Paused) (bs : List Shape) → AreInOrder p bs → AreInOrder (failing p) bs
in-order-failing p [] h = tt
in-order-failing p (a ∷ bs) h = order-failing p a bs h

-- with another search, for the same forks
abbrev pub searching : Section → Paused → Section
searching s p = roll-Section (record (out-Section s) { search = p })

pub ready-failing : (code : Compiled) (s : Section) (p : Paused) → p ≡ failing (out-Section s).search → (IsFor code (out-Section s).search → IsFor code p) → IsReady code s → IsReady code (searching s p)
ready-failing code s p e is_for r =
    let k = ready-out code s r in
    ready-roll code (record (out-Section s) { search = p })
    ((is_for k.0.0, subst (λ q. AreMatched code q.older (part_now (out-Section s)).frames) (sym e) k.0.1, subst (λ q. AreInOrder q (part_now (out-Section s)).frames) (sym e) (in-order-failing (out-Section s).search (part_now (out-Section s)).frames k.0.2)), k.1)

-- ---- the slot that is redone

pub not-redone : (rd : Round) → ((i : ℕ) → rd ≡ Later i → ⊥) → redone_of rd ≡ None
not-redone First h = refl
not-redone (Draining n) h = refl
not-redone (Later i) h = absurd (h i refl)
not-redone Closed h = refl

pub redone-at : (s : Section) (n : ℕ) (f : Frame Section Trees) → n ≡ count_in s → IsAtFrame (view_of s) → f ≡ get_or (out-Section s).frames.items (n - 1) f → redone_in (view_of s) ≡ redone_of f.round
redone-at s n f e at v = ap redone_of (round-at s f (top-at s n f e at v) at)
