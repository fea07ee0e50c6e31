-- Events of the section that runs a slot, as events of the section outside of it.
use Rattle.std.proofs.Common.{◌≡◌, ℕ, zero, suc, List, [], ◌∷◌, map, Option, Some, None, option_and_then, refl, ap, sym, ◌∙◌, subst}
use Rattle.std.proofs.lemmas.Option.{none-some, same_Some}
use Rattle.ap_core.specs.declared.events.Kind.{Kind}
use Rattle.ap_core.specs.Tasks as core
use Rattle.ap_core.specs.Tasks.{Task, task, exhausted, alternative, state, frame, Progress, idle, stored, busy, again, redone, drained}
use Rattle.ap_core.specs.Conditions.{is_open, has_answer}
use Rattle.ap_core.specs.Relation.{Rules, in_task, in_slots, mapped}
use Rattle.ap_core.specs.Reached.{Happening}
use Rattle.ap_core.specs.Lifting.{running_in, running_task, at_end}
use Rattle.ap_core.proofs.Lifted.{filled, in_filled, chosen}
use Rattle.ap_core.proofs.Options.{Some-if}
use Rattle.ap_frames.specs.declared.frame.Round.TheVariants.{First, Draining, Later, Closed}
use Rattle.ap_tracked.specs.Tracked.{Tracked}
use Rattle.ap_instr.specs.Code.{Compiled}
use Rattle.ap_tie.specs.Sections.{Section, section, bottom, parcall}
use Rattle.ap_tie.proofs.Open.{lift}
use Rattle.ap_tied.specs.Happened.{happened}
use Rattle.ap_tied.specs.SlotCalls.{since, since_in, since_of, RunsSlot}
use Rattle.ap_tied.specs.Ties.{IsSimple, SlotsAreSimple, IsSimpleProgress, WasRedone, IsRedoneAt, IsRedoneIn, IsInRound, IsTied}

-- ---- with another task in slot i

abbrev filled_in : ℕ → core.Slots → Task → core.Slots
filled_in i core.no_slot y = core.no_slot
filled_in zero (core.slot g k x w) y = core.slot g k x w
filled_in (suc zero) (core.slot g k x w) y = core.slot g k (filled x y) w
filled_in (suc (suc i)) (core.slot g k x w) y = core.slot g k x (filled_in (suc i) w y)

-- in the slot of the frame that comes first
abbrev filled_at : ℕ → Task → Task → Task
filled_at i (task r c exhausted) y = task r c exhausted
filled_at i (task r c (alternative (state s) l)) y = task r c (alternative (state s) l)
filled_at i (task r c (alternative (frame s rd w) l)) y = task r c (alternative (frame s rd (filled_in i w y)) l)

event_in : (p : Rules) (k : Kind) (path : List ℕ) (r b i : ℕ) (w : core.Slots) (z y : Task) → running_in i w ≡ Some z → at_end p k path z ≡ Some y → in_slots p k i path r b w ≡ Some (filled_in i w y)
event_in p k path r b i core.no_slot z y h e = absurd (none-some _ h)
event_in p k path r b zero (core.slot g o x w) z y h e = absurd (none-some _ h)
event_in p k path r b (suc zero) (core.slot g o x w) z y h e = ap (mapped (λ c. core.slot g c.0 c.1 w)) (in_filled p k path r b g o x z y h e).0
event_in p k path r b (suc (suc i)) (core.slot g o x w) z y h e = ap (mapped (core.slot g o x)) (event_in p k path r b (suc i) w z y h e)

event_at : (p : Rules) (k : Kind) (path : List ℕ) (i : ℕ) (t z y : Task) → running_task i t ≡ Some z → at_end p k path z ≡ Some y → in_task p k i path t ≡ Some (filled_at i t y)
event_at p k path i (task r c exhausted) z y h e = absurd (none-some _ h)
event_at p k path i (task r c (alternative (state s) l)) z y h e = absurd (none-some _ h)
event_at p k path i (task r c (alternative (frame s rd w) l)) z y h e =
    let d = Some-if (is_open rd) (running_in i w) z h in
    ap (λ x. mapped (task r c) (mapped (λ b. alternative b l) x)) (chosen (is_open rd) (mapped (frame s rd) (in_slots p k i path r s.next w)) d.0)
    ∙ ap (λ x. mapped (task r c) (mapped (λ b. alternative b l) (mapped (frame s rd) x))) (event_in p k path r s.next i w z y d.1 e)

-- ---- what stays

simple_progress : (x : Progress) (y : Task) → IsSimpleProgress x → IsSimpleProgress (filled x y)
simple_progress (idle i) y h = h
simple_progress (stored m) y h = h
simple_progress (busy b t) y h = h
simple_progress (core.held m a t c) y h = h
simple_progress (redone m b t i) y h = h
simple_progress (again m a t c) y h = h
simple_progress (drained m b t i e) y h = h

simple_in : (i : ℕ) (w : core.Slots) (y : Task) → SlotsAreSimple w → SlotsAreSimple (filled_in i w y)
simple_in i core.no_slot y h = h
simple_in zero (core.slot g k x w) y h = h
simple_in (suc zero) (core.slot g k x w) y h = (h.0, simple_progress x y h.1, h.2)
simple_in (suc (suc i)) (core.slot g k x w) y h = (h.0, h.1, simple_in (suc i) w y h.2)

simple_at : (i : ℕ) (t y : Task) → IsSimple t → IsSimple (filled_at i t y)
simple_at i (task r c exhausted) y h = h
simple_at i (task r c (alternative (state s) l)) y h = h
simple_at i (task r c (alternative (frame s rd w) l)) y h = (simple_in i w y h.0, h.1)

answer_stays : (x : Progress) (y : Task) → has_answer (filled x y) ≡ has_answer x
answer_stays (idle i) y = refl
answer_stays (stored m) y = refl
answer_stays (busy b t) y = refl
answer_stays (core.held m a t c) y = refl
answer_stays (redone m b t i) y = refl
answer_stays (again m a t c) y = refl
answer_stays (drained m b t i e) y = refl

redone_stays : (x : Progress) (y : Task) → WasRedone x → WasRedone (filled x y)
redone_stays (idle i) y h = absurd h
redone_stays (stored m) y h = absurd h
redone_stays (busy b t) y h = absurd h
redone_stays (core.held m a t c) y h = absurd h
redone_stays (redone m b t i) y h = h
redone_stays (again m a t c) y h = h
redone_stays (drained m b t i e) y h = absurd h

redone_in : (j i : ℕ) (w : core.Slots) (y : Task) → IsRedoneAt j w → IsRedoneAt j (filled_in i w y)
redone_in j i core.no_slot y h = absurd h
redone_in zero i (core.slot g k x w) y h = absurd h
redone_in (suc zero) zero (core.slot g k x w) y h = h
redone_in (suc zero) (suc zero) (core.slot g k x w) y h = redone_stays x y h
redone_in (suc zero) (suc (suc i)) (core.slot g k x w) y h = h
redone_in (suc (suc j)) zero (core.slot g k x w) y h = h
redone_in (suc (suc j)) (suc zero) (core.slot g k x w) y h = (answer_stays x y ∙ h.0, h.1)
redone_in (suc (suc j)) (suc (suc i)) (core.slot g k x w) y h = (h.0, redone_in (suc j) (suc i) w y h.1)

redone_at : (j i : ℕ) (t y : Task) → IsRedoneIn j t → IsRedoneIn j (filled_at i t y)
redone_at j i (task r c exhausted) y h = h
redone_at j i (task r c (alternative (state s) l)) y h = h
redone_at j i (task r c (alternative (frame s rd w) l)) y h = redone_in j i w y h

round_at : (s : Section) (i : ℕ) (t y : Task) → IsInRound s t → IsInRound s (filled_at i t y)
round_at (section m c b bottom) i t y h = tt
round_at (section m c b (parcall f q First w qs st)) i t y h = tt
round_at (section m c b (parcall f q (Draining n) w qs st)) i t y h = tt
round_at (section m c b (parcall f q (Later j) w qs st)) i t y h = redone_at j i t y h
round_at (section m c b (parcall f q Closed w qs st)) i t y h = tt

since_stays : (x : Progress) (y : Task) → since_of (filled x y) ≡ since_of x
since_stays (idle i) y = refl
since_stays (stored m) y = refl
since_stays (busy b t) y = refl
since_stays (core.held m a t c) y = refl
since_stays (redone m b t i) y = refl
since_stays (again m a t c) y = refl
since_stays (drained m b t i e) y = refl

since_stays_in : (i : ℕ) (w : core.Slots) (y : Task) → since_in i (filled_in i w y) ≡ since_in i w
since_stays_in i core.no_slot y = refl
since_stays_in zero (core.slot g k x w) y = refl
since_stays_in (suc zero) (core.slot g k x w) y = since_stays x y
since_stays_in (suc (suc i)) (core.slot g k x w) y = since_stays_in (suc i) w y

since_stays_at : (i : ℕ) (t y : Task) → since i (filled_at i t y) ≡ since i t
since_stays_at i (task r c exhausted) y = refl
since_stays_at i (task r c (alternative (state s) l)) y = refl
since_stays_at i (task r c (alternative (frame s rd w) l)) y = since_stays_in i w y

-- ---- events

-- The section outside stays tied, and the slot runs what the event leaves.
lift_one : (code : Compiled) (p : Rules) (o : Tracked) (s : Section) (i : ℕ) (t z y : Task) (k : Kind) (path : List ℕ) (n : Tracked) (d : ℕ) → IsTied code p o s t → RunsSlot i t n d z → at_end p k path z ≡ Some y
    → (u : Task) × (at_end p k (i ∷ path) t ≡ Some u) × IsTied code p o s u × RunsSlot i u n d y
lift_one code p o s i t z y k path n d h r e =
    let f = lift code p o s i t z y k path h.holds r.runs e in
    let same : filled_at i t y ≡ f.0 = same_Some _ _ (sym (event_at p k path i t z y r.runs e) ∙ f.1) in (
      f.0,
      f.1,
      record {
        holds = f.2;
        simple = subst IsSimple same (simple_at i t y h.simple);
        quiet = h.quiet;
        in_order = h.in_order;
        in_round = subst (IsInRound s) same (round_at s i t y h.in_round);
      },
      record { runs = f.3; origin = f.4 ∙ r.origin; before = ap (since i) (sym same) ∙ since_stays_at i t y ∙ r.before },
    )

-- at the paths through slot i
abbrev pub through : ℕ → List Happening → List Happening
through i es = map (λ e. (e.0, i ∷ e.1)) es

pub lift_all : (code : Compiled) (p : Rules) (o : Tracked) (s : Section) (i : ℕ) (es : List Happening) (t z y : Task) (n : Tracked) (d : ℕ) → IsTied code p o s t → RunsSlot i t n d z → happened p es z ≡ Some y
    → (u : Task) × (happened p (through i es) t ≡ Some u) × IsTied code p o s u × RunsSlot i u n d y
lift_all code p o s i [] t z y n d h r e = (t, refl, h, subst (RunsSlot i t n d) (same_Some _ _ e) r)
lift_all code p o s i (e ∷ es) t z y n d h r is = go (at_end p e.0 e.1 z) refl is (lift_all code p o s i es)
  where
    go : (x : Option Task) → at_end p e.0 e.1 z ≡ x → option_and_then (happened p es) x ≡ Some y
        → ((t z y : Task) (n : Tracked) (d : ℕ) → IsTied code p o s t → RunsSlot i t n d z → happened p es z ≡ Some y
        → (u : Task) × (happened p (through i es) t ≡ Some u) × IsTied code p o s u × RunsSlot i u n d y)
        → (u : Task) × (happened p (through i (e ∷ es)) t ≡ Some u) × IsTied code p o s u × RunsSlot i u n d y
    go None same is rec = absurd (none-some _ is)
    go (Some x) same is rec =
        let a = lift_one code p o s i t z x e.0 e.1 n d h r same in
        let b = rec a.0 x y n d a.2 a.3 is in
        (b.0, ap (option_and_then (happened p (through i es))) a.1 ∙ b.1, b.2, b.3)
