-- A section from whose newest frame a slot's section is taken.
use Rattle.std.proofs.Common.{◌≡◌, ◌∙◌, ℕ, zero, suc, ◌+◌, ◌-◌, ◌<◌, ◌≤◌, inl, List, [], ◌∷◌, length, reverse, slice_get, ap, ap₂, sym, subst, refl, Some, None, Option, Bool, true, false, ◌&&◌, is_some, get_or, arith}
use Rattle.std.specs.Cmp.{nat_cmp_is}
use Rattle.std.specs.Ordering.{nat_cmp}
use Rattle.std.specs.declared.cmp.Ordering.{Ordering}
use Rattle.std.specs.declared.cmp.Ordering.TheVariants.{Less, Equal, Greater}
use Rattle.ap_term.specs.Tree.{Trees}
use Rattle.ap_frames.specs.declared.frame.Frame.{Frame}
use Rattle.ap_frames.specs.declared.frame.Round.TheVariants.{Later, Closed}
use Rattle.ap_frames.specs.declared.slots.Slot.{Slot}
use Rattle.ap_frames.specs.declared.slots.Run.TheVariants.{Redone}
use Rattle.ap_frames.specs.declared.slots.Stand.{Stand}
use Rattle.ap_frames.specs.declared.slots.Stand.TheVariants.{Ready, Waiting, Running, Answered, Replayed, Ended, GivenBack}
use Rattle.ap_frames.specs.Slots.{is_running, section_at, section_of, more_at, has_more, hands_over, holds_more, tuples_of}
use Rattle.ap_frames.specs.Verdicts.{place_behind, next_redo}
use Rattle.ap_frames.specs.Rows.{row, at_place, standing}
use Rattle.ap_frames.specs.Rows as frames
use Rattle.ap_frames.specs.Rounds.{numbered, without_cost, reset, reset_by, resumed, run_in, begun_in}
use Rattle.ap_instr.specs.Code.{Compiled}
use Rattle.ap_machine.specs.View.{Segment, Paused}
use Rattle.ap_tie.specs.Sections as seen
use Rattle.ap_tie.specs.Sections.{Row, section, Slots, no_slot, slot, Held, nothing, held, Stack, bottom, parcall, rows}
use Rattle.ap_tie.specs.Redone.{keeping}
use Rattle.ap_section.specs.declared.section.Section.{Section, out-Section}
use Rattle.ap_tied.specs.SlotCalls.{held_in, gone_on}
use Rattle.ap_section.specs.Views.{view_of, row_of, bare, spent_in, budget_in}
use Rattle.ap_section.specs.Lending.{count_in}
use Rattle.ap_section.specs.Slots.{IsAtFrame, IsPlaceIn, told_of, slots_in, round_in, taken_in, taken_stack, is_held, held_spent, IsGoneOn}
use Rattle.ap_section.specs.Ready.{IsReady, IsShut}
use Rattle.std.proofs.Common.{◌^◌, Ok}
use Rattle.ap_section.specs.declared.settle.Settled.TheVariants.{Redo}
use Rattle.ap_section.specs.Closes.{IsNearlyReady, IsOutcome}
use Rattle.ap_frames.specs.declared.verdict.Verdict.TheVariants.{Wait}
use Rattle.ap_section.specs.Settles.{IsOpenIn}
use Rattle.ap_section.proofs.Outcomes.{to-redo}
use Rattle.ap_section.proofs.Levels.{held_own, held_now, slots_now, stack_now, seen_as, view_of-out}
use Rattle.ap_section.proofs.Parts.{HeldReady, StandReady, SlotsReady, FramesReady}
use Rattle.ap_section.proofs.Newest.{top-at, view-top, view-newest, put_at, slots-at, round-at, length-rows, frames-back, length-stack}
use Rattle.ap_section.proofs.Closes.{nearly-out, nearly-ready, ready-nearly, nearly-newest}
use Rattle.ap_section.proofs.Redoes.{redo-count, next-at, next-place}
use Rattle.ap_section.proofs.Stood.{one-less}

-- ---- slots

abbrev Taken : {S : Type 0} → ℕ → ℕ → ℕ → List (Slot S Trees) → List (Slot S Trees)
Taken i n k xs = at_place (standing (Running Redone)) k (numbered (reset_by i) n xs)

running-reset : (o : Ordering) (x : Slot Section Trees) → row_of (standing (Running Redone) (reset o x)) ≡ standing (Running Redone) (reset o (row_of x))
running-reset Less x = refl
running-reset Equal x = refl
running-reset Greater x = refl

waiting-right : (i n : ℕ) (xs : List (Slot Section Trees)) → i < n → slots_now (numbered (reset_by i) n xs) ≡ keeping zero (numbered (reset_by i) n (rows (slots_now xs))) (slots_now xs)
waiting-right i n [] h = refl
waiting-right i n (x ∷ xs) h =
    subst (λ o. slot (row_of (reset o x)) (held_now (reset o x).stand) (slots_now (numbered (reset_by i) (n + 1) xs)) ≡ slot (reset o (row_of x)) nothing (keeping zero (numbered (reset_by i) (n + 1) (rows (slots_now xs))) (slots_now xs)))
    (nat_cmp_is n i Greater h) (ap (slot (reset Greater (row_of x)) nothing) (waiting-right i (n + 1) xs (omega (arith, h))))

bare-cost : (y : Stand Section) → bare (without_cost y) ≡ without_cost (bare y)
bare-cost Ready = refl
bare-cost Waiting = refl
bare-cost (Running r) = refl
bare-cost (Answered a) = refl
bare-cost (Replayed k) = refl
bare-cost (Ended e c) = refl
bare-cost GivenBack = refl

held-cost : (y : Stand Section) → held_now (without_cost y) ≡ held_now y
held-cost Ready = refl
held-cost Waiting = refl
held-cost (Running r) = refl
held-cost (Answered a) = refl
held-cost (Replayed k) = refl
held-cost (Ended e c) = refl
held-cost GivenBack = refl

pub taken-now : (i n k : ℕ) (xs : List (Slot Section Trees)) → n + k ≡ i → slots_now (Taken i n k xs) ≡ keeping k (Taken i n k (rows (slots_now xs))) (slots_now xs)
taken-now i n k [] e = refl
taken-now i n zero (x ∷ xs) e = ap₂ (λ r w. slot r nothing w) (running-reset (nat_cmp n i) x) (waiting-right i (n + 1) xs (omega (arith, e)))
taken-now i n (suc k) (x ∷ xs) e =
    let before : n < i = omega (arith, e) in
    subst (λ o. slot (row_of (reset o x)) (held_now (reset o x).stand) (slots_now (Taken i (n + 1) k xs)) ≡ slot (reset o (row_of x)) (held_now x.stand) (keeping k (Taken i (n + 1) k (rows (slots_now xs))) (slots_now xs)))
    (nat_cmp_is n i Less before)
    (ap (λ r. slot (record { stand = r; is_loud = x.is_loud; recording = x.recording; tuples = x.tuples; mark = x.mark }) (held_now (without_cost x.stand)) (slots_now (Taken i (n + 1) k xs))) (bare-cost x.stand)
    ∙ ap₂ (slot (reset Less (row_of x))) (held-cost x.stand) (taken-now i (n + 1) k xs (omega (arith, e))))

cost-ready : (code : Compiled) (y : Stand Section) → StandReady code y → StandReady code (without_cost y)
cost-ready code Ready h = tt
cost-ready code Waiting h = tt
cost-ready code (Running r) h = tt
cost-ready code (Answered a) h = h
cost-ready code (Replayed k) h = tt
cost-ready code (Ended e c) h = tt
cost-ready code GivenBack h = tt

reset-ready : (code : Compiled) (o : Ordering) (x : Slot Section Trees) → StandReady code x.stand → StandReady code (reset o x).stand
reset-ready code Less x h = cost-ready code x.stand h
reset-ready code Equal x h = h
reset-ready code Greater x h = tt

numbered-ready : (code : Compiled) (i n : ℕ) (xs : List (Slot Section Trees)) → SlotsReady code xs → SlotsReady code (numbered (reset_by i) n xs)
numbered-ready code i n [] h = tt
numbered-ready code i n (x ∷ xs) h = (reset-ready code (nat_cmp n i) x h.0, numbered-ready code i (n + 1) xs h.1)

placed-ready : (code : Compiled) (k : ℕ) (xs : List (Slot Section Trees)) → SlotsReady code xs → SlotsReady code (at_place (standing (Running Redone)) k xs)
placed-ready code k [] h = tt
placed-ready code zero (x ∷ xs) h = (tt, h.1)
placed-ready code (suc k) (x ∷ xs) h = (h.0, placed-ready code k xs h.1)

pub taken-ready : (code : Compiled) (i n k : ℕ) (xs : List (Slot Section Trees)) → SlotsReady code xs → SlotsReady code (Taken i n k xs)
taken-ready code i n k xs h = placed-ready code k (numbered (reset_by i) n xs) (numbered-ready code i n xs h)

length-placed : (k : ℕ) (xs : List (Slot Section Trees)) → length (at_place (standing (Running Redone)) k xs) ≡ length xs
length-placed k [] = refl
length-placed zero (x ∷ xs) = refl
length-placed (suc k) (x ∷ xs) = ap suc (length-placed k xs)

length-numbered : (i n : ℕ) (xs : List (Slot Section Trees)) → length (numbered (reset_by i) n xs) ≡ length xs
length-numbered i n [] = refl
length-numbered i n (x ∷ xs) = ap suc (length-numbered i (n + 1) xs)

pub length-taken : (i n k : ℕ) (xs : List (Slot Section Trees)) → length (Taken i n k xs) ≡ length xs
length-taken i n k xs = length-placed k (numbered (reset_by i) n xs) ∙ length-numbered i n xs

pub runs-taken : (i n k : ℕ) (xs : List (Slot Section Trees)) → k < length xs → frames.of_slot is_running false (slice_get (rows (slots_now (Taken i n k xs))) k) ≡ true
runs-taken i n k [] h = absurd (omega (arith, h))
runs-taken i n zero (x ∷ xs) h = refl
runs-taken i n (suc k) (x ∷ xs) h = runs-taken i (n + 1) k xs (omega (arith, h))

-- ---- the slot whose section is taken

held-answered : (y : Stand Section) (a : Section) → section_at y ≡ Some a → held_now y ≡ held (view_of a)
held-answered Ready a e = absurd (cc)
held-answered Waiting a e = absurd (cc)
held-answered (Running r) a e = absurd (cc)
held-answered (Answered b) a e = ap held_own e
held-answered (Replayed k) a e = absurd (cc)
held-answered (Ended d c) a e = absurd (cc)
held-answered GivenBack a e = absurd (cc)

ready-answered : (code : Compiled) (y : Stand Section) (a : Section) → section_at y ≡ Some a → StandReady code y → HeldReady code (Some a)
ready-answered code Ready a e h = absurd (cc)
ready-answered code Waiting a e h = absurd (cc)
ready-answered code (Running r) a e h = absurd (cc)
ready-answered code (Answered b) a e h = subst (HeldReady code) e h
ready-answered code (Replayed k) a e h = absurd (cc)
ready-answered code (Ended d c) a e h = absurd (cc)
ready-answered code GivenBack a e h = absurd (cc)

held-place : (k : ℕ) (xs : List (Slot Section Trees)) (a : Section) → frames.of_slot section_of None (slice_get xs k) ≡ Some a → held_in (suc k) (slots_now xs) ≡ held (view_of a)
held-place k [] a e = absurd (cc)
held-place zero (x ∷ xs) a e = held-answered x.stand a e
held-place (suc k) (x ∷ xs) a e = held-place k xs a e

ready-place : (code : Compiled) (k : ℕ) (xs : List (Slot Section Trees)) (a : Section) → frames.of_slot section_of None (slice_get xs k) ≡ Some a → SlotsReady code xs → HeldReady code (Some a)
ready-place code k [] a e h = absurd (cc)
ready-place code zero (x ∷ xs) a e h = ready-answered code x.stand a e h.0
ready-place code (suc k) (x ∷ xs) a e h = ready-place code k xs a e h.1

more-held : (n : ℕ) (y : Stand Section) → is_held (held_now y) ≡ true → more_at n y ≡ true → hands_over y ≡ true
more-held n Ready h k = absurd (cc)
more-held n Waiting h k = absurd (cc)
more-held n (Running r) h k = absurd (cc)
more-held n (Answered a) h k = go a.section h
  where
    go : (o : Option Section) → is_held (held_own o) ≡ true → (is_some o && a.has_more) ≡ true
    go None h = absurd (cc)
    go (Some s) h = k
more-held n (Replayed j) h k = absurd (cc)
more-held n (Ended d c) h k = absurd (cc)
more-held n GivenBack h k = absurd (cc)

-- the rightmost slot that has more is there, and holds its section
more-place : (xs : List (Slot Section Trees)) (k : ℕ) → next_redo xs ≡ Some (suc k) → is_held (held_in (suc k) (slots_now xs)) ≡ true → (x : Slot Section Trees) × (slice_get xs k ≡ Some x) × (holds_more x ≡ true)
more-place [] k e h = absurd (cc)
more-place (x ∷ xs) zero e h = go (next_redo xs) refl (has_more x) refl e
  where
    go : (o : Option ℕ) → next_redo xs ≡ o → (b : Bool) → has_more x ≡ b → place_behind o b ≡ Some 1 → (y : Slot Section Trees) × (slice_get (x ∷ xs) 0 ≡ Some y) × (holds_more y ≡ true)
    go (Some j) d b m q = let p = next-place xs j d in let z : j + 1 ≡ 1 = cc in absurd (omega (arith, z, p.0))
    go None d true m q = (x, refl, more-held (length (tuples_of x)) x.stand h m)
    go None d false m q = absurd (cc)
more-place (x ∷ xs) (suc k) e h = go (next_redo xs) (λ d. more-place xs k d h) (has_more x) e
  where
    go : (o : Option ℕ) → (o ≡ Some (suc k) → (y : Slot Section Trees) × (slice_get xs k ≡ Some y) × (holds_more y ≡ true)) → (b : Bool) → place_behind o b ≡ Some (suc (suc k))
        → (y : Slot Section Trees) × (slice_get xs k ≡ Some y) × (holds_more y ≡ true)
    go (Some j) m b q = let z : j + 1 ≡ suc (suc k) = cc in let w : j ≡ suc k = omega (arith, z) in m (ap Some w)
    go None m true q = let z : 1 ≡ suc (suc k) = cc in absurd (omega (arith, z))
    go None m false q = absurd (cc)

one-more : (i : ℕ) → 0 < i → 1 + (i - 1) ≡ i
one-more i h = omega (arith, h)

-- ---- the newest frame

resumed-row : (i r : ℕ) (f h : Frame Section Trees) → f.round ≡ Closed → row h ≡ resumed i r (row f) → row h ≡ record { rest = r; round = Later i; mark = f.mark; slots = Taken i 1 (i - 1) f.slots.items }
resumed-row i r f h c e = e ∙ ap (λ rd. frames.stood i (Running (run_in rd)) (begun_in rd i r (row f))) c

stack-taken : (gs : List Segment) (fs : List (Frame Section Trees)) (f h : Frame Section Trees) (i r : ℕ) → 0 < i → f.round ≡ Closed → row h ≡ resumed i r (row f) → stack_now gs (h ∷ fs) ≡ taken_stack i r (stack_now gs (f ∷ fs))
stack-taken [] fs f h i r p c e = refl
stack-taken (g ∷ gs) fs f h i r p c e = ap (λ z. parcall g.forked z.rest z.round (slots_now z.slots) g.points (stack_now gs fs)) (resumed-row i r f h c e)
    ∙ ap (λ w. parcall g.forked r (Later i) w g.points (stack_now gs fs)) (taken-now i 1 (i - 1) f.slots.items (one-more i p))

at-resumed : (p : Paused) (gs : List Segment) (fs : List (Frame Section Trees)) (f h : Frame Section Trees) (i : ℕ) → 0 < i → i ≤ length f.slots.items → f.round ≡ Closed → row h ≡ resumed i (p.budget - p.spent) (row f)
    → IsAtFrame (section p.machine p.spent p.budget (stack_now gs (f ∷ fs))) → IsAtFrame (section p.machine p.spent p.budget (stack_now gs (h ∷ fs)))
at-resumed p [] fs f h i l k c e at = absurd at
at-resumed p (g ∷ gs) fs f h i l k c e at =
    let count : length (rows (slots_now (Taken i 1 (i - 1) f.slots.items))) ≡ length f.slots.items = length-rows (Taken i 1 (i - 1) f.slots.items) ∙ length-taken i 1 (i - 1) f.slots.items in
    subst (λ z. IsAtFrame (section p.machine p.spent p.budget (parcall g.forked z.rest z.round (slots_now z.slots) g.points (stack_now gs fs)))) (sym (resumed-row i (p.budget - p.spent) f h c e))
    (at.0, at.1, count ∙ sym (length-rows f.slots.items) ∙ at.2, refl, (l, subst (λ n. i ≤ n) (sym count) k))

-- what is known of the section whose i-th slot's section a was taken
pub record TakenFrom (s new a : Section) (i : ℕ) : Type 0 where
  pub view : view_of new ≡ taken_in i (view_of s)
  pub at_frame : IsAtFrame (view_of new)
  pub place : IsPlaceIn i (view_of new)
  pub runs : told_of is_running i (view_of new) ≡ true
  pub holds : held_in i (slots_in (view_of s)) ≡ held (view_of a)
  pub ready : (code : Compiled) → IsReady code s → IsReady code new × IsShut code a

pub taken-from : (s a : Section) (n : ℕ) (f h : Frame Section Trees) (i r : ℕ) → n ≡ count_in s → IsAtFrame (view_of s) → f ≡ get_or (out-Section s).frames.items (n - 1) f
    → round_in (view_of s) ≡ Closed → next_redo (rows (slots_in (view_of s))) ≡ Some i → r ≡ (out-Section s).search.budget - (out-Section s).search.spent
    → frames.of_slot section_of None (slice_get f.slots.items (i - 1)) ≡ Some a → row h ≡ resumed i r (row f) → TakenFrom s (put_at s n h) a i
taken-from s a n f h i r e at v c d l o u =
    let t = top-at s n f e at v in
    let p = (out-Section s).search in
    let fs = reverse t.before in
    let next = sym (next-at s n f e at v) ∙ d in
    let place = next-place f.slots.items i next in
    let closed = sym (round-at s f t at) ∙ c in
    let row_is : row h ≡ resumed i (p.budget - p.spent) (row f) = u ∙ ap (λ m. resumed i m (row f)) l in
    let new : view_of (put_at s n h) ≡ seen_as p (h ∷ fs) = ap (λ j. view_of (put_at s j h)) e ∙ view-newest s f h t in
    let at_new : IsAtFrame (seen_as p (h ∷ fs)) = at-resumed p p.older fs f h i place.0 place.1 closed row_is (subst IsAtFrame (view-top s f t) at) in
    let at_frame = subst IsAtFrame (sym new) at_new in
    let slots_new : slots_in (view_of (put_at s n h)) ≡ slots_now (Taken i 1 (i - 1) f.slots.items) =
    ap slots_in new ∙ length-stack p p.older h fs at_new ∙ ap (λ z. slots_now z.slots) (resumed-row i (p.budget - p.spent) f h closed row_is) in
    record {
      view = new ∙ ap (section p.machine p.spent p.budget) (stack-taken p.older fs f h i (p.budget - p.spent) place.0 closed row_is) ∙ ap (taken_in i) (sym (view-top s f t));
      at_frame = at_frame;
      place = (place.0, subst (λ m. i ≤ m) (sym (ap (λ w. length (rows w)) slots_new ∙ length-rows (Taken i 1 (i - 1) f.slots.items) ∙ length-taken i 1 (i - 1) f.slots.items)) place.1);
      runs = ap (λ w. frames.of_slot is_running false (slice_get (rows w) (i - 1))) slots_new ∙ runs-taken i 1 (i - 1) f.slots.items (omega (arith, place.0, place.1));
      holds = ap (held_in i) (slots-at s f t at) ∙ ap (λ j. held_in j (slots_now f.slots.items)) (sym (one-less i place.0)) ∙ held-place (i - 1) f.slots.items a o;
      ready = λ code k.
          let now = nearly-out code s (ready-nearly code s k) in
          let slots = (frames-back code t.before (f ∷ []) (subst (FramesReady code) t.items now.3)).0 in
          let items = ap (λ z. z.slots) (resumed-row i (p.budget - p.spent) f h closed row_is) in
          let nearly = subst (λ j. IsNearlyReady code (put_at s j h)) (sym e)
          (nearly-newest code s f h t (λ m c. inl (ap length items ∙ length-taken i 1 (i - 1) f.slots.items ∙ redo-count f.round m f.slots.items (ap is_some next) c)) (λ xs. subst (SlotsReady code) (sym items) (taken-ready code i 1 (i - 1) f.slots.items xs)) (ready-nearly code s k)) in
          (nearly-ready code (put_at s n h) nearly at_frame, ready-place code (i - 1) f.slots.items a o slots);
    }

held-spent : (v : seen.Section) → held_spent (held v) ≡ spent_in v
held-spent (section m c b st) = refl

pub fits-taken : (s a : Section) (i r : ℕ) → held_in i (slots_in (view_of s)) ≡ held (view_of a) → held_spent (held_in i (slots_in (view_of s))) + (budget_in (view_of s) - spent_in (view_of s)) < 2 ^ 64
    → r ≡ (out-Section s).search.budget - (out-Section s).search.spent → spent_in (view_of a) + r < 2 ^ 64
fits-taken s a i r h k e =
    let rest : budget_in (view_of s) - spent_in (view_of s) ≡ r = ap (λ v. budget_in v - spent_in v) (view_of-out s) ∙ sym e in
    subst (λ n. n + r < 2 ^ 64) (ap held_spent h ∙ held-spent (view_of a)) (subst (λ m. held_spent (held_in i (slots_in (view_of s))) + m < 2 ^ 64) rest k)

pub gone-on : (s a b : Section) (i r : ℕ) → held_in i (slots_in (view_of s)) ≡ held (view_of a) → r ≡ (out-Section s).search.budget - (out-Section s).search.spent → view_of b ≡ gone_on r (view_of a)
    → IsGoneOn (budget_in (view_of s) - spent_in (view_of s)) (held_in i (slots_in (view_of s))) (view_of b)
gone-on s a b i r h e k =
    let rest : budget_in (view_of s) - spent_in (view_of s) ≡ r = ap (λ v. budget_in v - spent_in v) (view_of-out s) ∙ sym e in
    subst (λ x. IsGoneOn (budget_in (view_of s) - spent_in (view_of s)) x (view_of b)) (sym h) (subst (λ m. view_of b ≡ gone_on m (view_of a)) (sym rest) k)

pub more-at : (s : Section) (n : ℕ) (f : Frame Section Trees) (i : ℕ) → n ≡ count_in s → IsAtFrame (view_of s) → f ≡ get_or (out-Section s).frames.items (n - 1) f
    → next_redo (rows (slots_in (view_of s))) ≡ Some i → is_held (held_in i (slots_in (view_of s))) ≡ true → frames.IsAt holds_more i (row f)
more-at s n f i e at v d h =
    let next = sym (next-at s n f e at v) ∙ d in
    let place = next-place f.slots.items i next in
    let i_is = one-less i place.0 in
    more-place f.slots.items (i - 1) (next ∙ ap Some (sym i_is))
    (subst (λ j. is_held (held_in j (slots_now f.slots.items)) ≡ true) (sym i_is) (subst (λ w. is_held (held_in i w) ≡ true) (slots-at s f (top-at s n f e at v) at) h))

-- ---- the slot that is redone next holds a section

pub found-held : (s : Section) (n : ℕ) (f : Frame Section Trees) (i : ℕ) (a : Section) → n ≡ count_in s → IsAtFrame (view_of s) → f ≡ get_or (out-Section s).frames.items (n - 1) f → 0 < i
    → frames.of_slot section_of None (slice_get f.slots.items (i - 1)) ≡ Some a → held_in i (slots_in (view_of s)) ≡ held (view_of a)
found-held s n f i a e at v p o =
    ap (held_in i) (slots-at s f (top-at s n f e at v) at) ∙ ap (λ j. held_in j (slots_now f.slots.items)) (sym (one-less i p)) ∙ held-place (i - 1) f.slots.items a o

pub redo-found : (s : Section) (n : ℕ) (f : Frame Section Trees) (i : ℕ) (a : Section) → n ≡ count_in s → IsAtFrame (view_of s) → f ≡ get_or (out-Section s).frames.items (n - 1) f → f.round ≡ Closed → next_redo f.slots.items ≡ Some i
    → frames.of_slot section_of None (slice_get f.slots.items (i - 1)) ≡ Some a → spent_in (view_of a) + (budget_in (view_of s) - spent_in (view_of s)) < 2 ^ 64 → IsOutcome s s (Ok (Redo i))
redo-found s n f i a e at v c d o fits =
    let held_is = found-held s n f i a e at v (next-place f.slots.items i d).0 o in
    to-redo s i (round-at s f (top-at s n f e at v) at ∙ c) (next-at s n f e at v ∙ d) (ap is_held held_is)
    (subst (λ m. m + (budget_in (view_of s) - spent_in (view_of s)) < 2 ^ 64) (sym (ap held_spent held_is ∙ held-spent (view_of a))) fits)

-- ---- nothing is redone

none-held : (y : Stand Section) → section_at y ≡ None → is_held (held_now y) ≡ false
none-held Ready e = refl
none-held Waiting e = refl
none-held (Running r) e = refl
none-held (Answered a) e = go a.section e
  where
    go : (o : Option Section) → o ≡ None → is_held (held_own o) ≡ false
    go None d = refl
    go (Some s) d = absurd (cc)
none-held (Replayed k) e = refl
none-held (Ended d c) e = refl
none-held GivenBack e = refl

none-place : (k : ℕ) (xs : List (Slot Section Trees)) → frames.of_slot section_of None (slice_get xs k) ≡ None → is_held (held_in (suc k) (slots_now xs)) ≡ false
none-place k [] e = refl
none-place zero (x ∷ xs) e = none-held x.stand e
none-place (suc k) (x ∷ xs) e = none-place k xs e

module _ (s : Section) (n : ℕ) (f : Frame Section Trees) (e : n ≡ count_in s) (at : IsAtFrame (view_of s)) (v : f ≡ get_or (out-Section s).frames.items (n - 1) f) where
  pub open-round : (f.round ≡ Closed → ⊥) → IsOpenIn Wait (view_of s)
  open-round h = λ c i d. absurd (h (sym (round-at s f (top-at s n f e at v) at) ∙ c))

  pub none-redone : ((i : ℕ) → next_redo f.slots.items ≡ Some i → ⊥) → IsOpenIn Wait (view_of s)
  none-redone h = λ c i d. absurd (h i (sym (next-at s n f e at v) ∙ d))

  pub none-there : (i : ℕ) → next_redo f.slots.items ≡ Some i → frames.of_slot section_of None (slice_get f.slots.items (i - 1)) ≡ None → IsOpenIn Wait (view_of s)
  none-there i k o = λ c j d.
      let same : i ≡ j = let m = sym k ∙ sym (next-at s n f e at v) ∙ d in cc in
      let place = one-less i (next-place f.slots.items i k).0 in
      subst (λ m. is_held (held_in m (slots_in (view_of s))) ≡ false) same
      (ap (λ w. is_held (held_in i w)) (slots-at s f (top-at s n f e at v) at) ∙ ap (λ m. is_held (held_in m (slots_now f.slots.items))) (sym place) ∙ none-place (i - 1) f.slots.items o)
