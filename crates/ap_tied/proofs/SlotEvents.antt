-- The frame that comes first, and an event of one of its slots.
use Rattle.std.proofs.Common.{◌≡◌, ℕ, ◌-◌, ◌⊎◌, inl, inr, true, false, List, [], ◌∷◌, Some, None, refl, ap, ap₂, sym, ◌∙◌, subst}
use Rattle.std.specs.Prelude.{length, option_and_then}
use Rattle.std.specs.List.{AllZip}
use Rattle.std.proofs.lemmas.Bool.{false≢true}
use Rattle.std.proofs.lemmas.Option.{none-some, same_Some}
use Rattle.ap_term.specs.Tree.{Tree, Trees}
use Rattle.ap_term.specs.Search.{State}
use Rattle.ap_term.specs.Substitution.{instance_all}
use Rattle.ap_term.proofs.Lists.{not_nil}
use Rattle.ap_core.specs.declared.events.Kind.{Kind}
use Rattle.ap_core.specs.declared.tasks.Busy.{Busy}
use Rattle.ap_core.specs.declared.tasks.Busy.TheVariants as busy_kind
use Rattle.ap_core.specs.declared.tasks.Round.{Round as CoreRound}
use Rattle.ap_core.specs.Tasks as core
use Rattle.ap_core.specs.Tasks.{Answer, Task, task, Alternatives, exhausted, alternative, Alternative, state, frame, Progress, idle, stored, busy, again, redone, drained}
use Rattle.ap_core.specs.Conditions.{is_open, has_answer}
use Rattle.ap_core.specs.Relation.{Rules, Recorded, at_slot, in_task, in_slots, mapped}
use Rattle.ap_core.specs.Lifting.{running_of, running_in, running_task, at_end}
use Rattle.ap_core.proofs.Lifted.{chosen}
use Rattle.ap_core.proofs.Options.{Some-if}
use Rattle.ap_frames.specs.declared.frame.Round.{Round}
use Rattle.ap_frames.specs.declared.frame.Round.TheVariants as round
use Rattle.ap_frames.specs.declared.slots.Stand.{Stand}
use Rattle.ap_frames.specs.Rows.{standing}
use Rattle.ap_frames.specs.Slots.{tuples_of}
use Rattle.ap_parcall_laws.specs.Alike.{StandsAs}
use Rattle.ap_tracked.specs.Tracked.{Tracked, untracked}
use Rattle.ap_tracked.specs.Forks.{alone}
use Rattle.ap_tracked.specs.Kept.{IsKept}
use Rattle.ap_instr.specs.Code.{Compiled}
use Rattle.ap_standing.specs.Machine.{Point, Machine}
use Rattle.ap_standing.specs.Holds.{Holds, HoldsPoints}
use Rattle.ap_standing.proofs.Machines.{failed-points}
use Rattle.ap_group.specs.Groups.{Forked}
use Rattle.ap_tie.specs.Sections.{section, Stack, bottom, parcall, Slots, no_slot, Held, rows}
use Rattle.ap_tie.specs.Shows.{Shows, before}
use Rattle.ap_tie.specs.Forked.{IsForked}
use Rattle.ap_tie.specs.Open.{origin_of}
use Rattle.ap_tie.specs.Settled.{HasFailed}
use Rattle.ap_tie.specs.Slots.{place_in, FitsSlot}
use Rattle.ap_tie.specs.Tied.{round_of, IsRest, IsShutIn, HoldsTask, HoldsStack, HoldsSlots, HoldsSource}
use Rattle.ap_tie.proofs.Open.{shut_open}
use Rattle.ap_tie.proofs.Cleared.{open-round, whole-stands, stands-there}
use Rattle.ap_tied.specs.Ties.{IsSimple, AreSimple, SlotsAreSimple, IsSimpleProgress, HoldsAnswer, WasRedone, IsRedoneIn, IsInRound, IsTied}
use Rattle.ap_tied.specs.SlotCalls.{stood, stood_in, since, since_of, RunsSlot}
use Rattle.ap_tied.proofs.Common.{same-count}
use Rattle.ap_tied.proofs.Places.{SlotAt, slot_at, running-place, origin-place, since-place, stood-put, length-stood, quiet-stood, set_in, place-set, event-set, simple-set, redone-set, set-twice, hold-set}

-- ---- the frame

-- Nothing comes before the frame in the task. Other slots can stand in the place of those that it has.
pub record FirstFrame (code : Compiled) (p : Rules) (o : Tracked) (m : Machine) (c b : ℕ) (f : Forked) (q : ℕ) (rd : Round) (w : Slots) (qs : List Point) (st : Stack) (t : Task) : Type 0 where
  pub forked : Tracked
  pub is_forked : IsForked code m.roots f forked
  pub kept : IsKept p.program o forked
  pub slots : core.Slots
  pub behind : Alternatives
  pub hold : HoldsSlots code p q forked.next (instance_all is_forked.own is_forked.goals) w slots
  pub rest : IsRest rd q (b - c)
  pub shut : IsShutIn rd (rows w) slots
  pub is : t ≡ task (b - c) c (alternative (frame (untracked forked) (round_of rd) slots) behind)
  pub others : (w' : Slots) (v' : core.Slots) → HoldsSlots code p q forked.next (instance_all is_forked.own is_forked.goals) w' v' → IsShutIn rd (rows w') v'
      → HoldsTask code p o (section m c b (parcall f q rd w' qs st)) (task (b - c) c (alternative (frame (untracked forked) (round_of rd) v') behind))

module _ (code : Compiled) (p : Rules) (o : Tracked) (m : Machine) (c b : ℕ) (f : Forked) (q : ℕ) (rd : Round) (w : Slots) (qs : List Point) (st : Stack) (t : Task) where
  alone_first : (l : Alternatives) → Holds code m [] → HoldsStack code p o m.roots (b - c) (parcall f q rd w qs st) l → t ≡ task (b - c) c l → (rd ≡ round.Closed → w ≡ no_slot → ⊥) → FirstFrame code p o m c b f q rd w qs st t
  alone_first l holds (s, i, v, sv, ys, k, kept, rest, shut, slots, points, shows, older, z) is whole = record {
    forked = s;
    is_forked = i;
    kept = kept;
    slots = v;
    behind = before ys k;
    hold = whole-stands rd w v _ whole slots;
    rest = rest;
    shut = shut;
    is = is ∙ ap (task (b - c) c) z;
    others = λ w' v' h shut'. ([], [], alternative (frame (untracked s) (round_of rd) v') (before ys k), holds, tt, (s, i, v', sv, ys, k, kept, rest, shut', stands-there code p q s.next (instance_all i.own i.goals) rd w' v' h, points, shows, older, refl), refl);
  }

  pub first_failed : HoldsTask code p o (section m c b (parcall f q rd w qs st)) t → HasFailed m.roots [] m → (rd ≡ round.Closed → w ≡ no_slot → ⊥) → FirstFrame code p o m c b f q rd w qs st t
  first_failed (ss, xs, l, holds, shown, stack, is) fails whole = go ss xs (subst (λ ps. HoldsPoints code m.roots ps ss) fails.points (failed-points code m fails.now ss holds)) holds shown is
    where
      go : (ss : List Tracked) (xs : List Alternative) → ss ≡ [] → Holds code m ss → AllZip (Shows p.program o) ss xs → t ≡ task (b - c) c (before xs l) → FirstFrame code p o m c b f q rd w qs st t
      go [] [] e n h is = alone_first l n stack is whole
      go [] (y ∷ ys) e n h is = absurd h
      go (s ∷ ss) xs e n h is = absurd (not_nil e)

  pub first_running : (z : Task) (i : ℕ) → HoldsTask code p o (section m c b (parcall f q rd w qs st)) t → running_task i t ≡ Some z → FirstFrame code p o m c b f q rd w qs st t
  first_running z i (ss, xs, l, holds, shown, stack, is) runs = go ss xs holds shown is
    where
      go : (ss : List Tracked) (xs : List Alternative) → Holds code m ss → AllZip (Shows p.program o) ss xs → t ≡ task (b - c) c (before xs l) → FirstFrame code p o m c b f q rd w qs st t
      go [] [] n h is =
          let here : t ≡ task (b - c) c (alternative (frame (untracked stack.0) (round_of rd) stack.2) (before stack.4 stack.5)) = is ∙ ap (task (b - c) c) stack.13 in
          let opened = Some-if (is_open (round_of rd)) (running_in i stack.2) z (sym (ap (running_task i) here) ∙ runs) in
          alone_first l n stack is (λ d e. open-round rd opened.0 d)
      go [] (y ∷ ys) n h is = absurd h
      go (a ∷ ss) [] n h is = absurd h
      go (a ∷ ss) (frame x d u ∷ xs) n h is = absurd h.0
      go (a ∷ ss) (state x ∷ xs) n h is = absurd (none-some _ (sym (ap (running_task i) is) ∙ runs))

pub none_runs : (code : Compiled) (p : Rules) (o : Tracked) (m : Machine) (c b : ℕ) (t z : Task) (i : ℕ) → HoldsTask code p o (section m c b bottom) t → running_task i t ≡ Some z → ⊥
none_runs code p o m c b t z i (ss, xs, l, holds, shown, stack, is) runs = go xs ss shown (sym (ap (running_task i) (is ∙ ap (λ v. task (b - c) c (before xs v)) stack)) ∙ runs)
  where
    go : (xs : List Alternative) (ss : List Tracked) → AllZip (Shows p.program o) ss xs → running_task i (task (b - c) c (before xs exhausted)) ≡ Some z → ⊥
    go [] ss h n = none-some _ n
    go (state a ∷ xs) ss h n = none-some _ n
    go (frame a rd w ∷ xs) [] h n = absurd h
    go (frame a rd w ∷ xs) (s ∷ ss) h n = absurd h.0

-- ---- rounds that are open

open_rest : (rd : Round) (q r : ℕ) → is_open (round_of rd) ≡ true → IsRest rd q r → q ≡ r
open_rest round.First q r h e = e
open_rest (round.Draining n) q r h e = e
open_rest (round.Later i) q r h e = e
open_rest round.Closed q r h e = absurd (false≢true h)

with_event : (p : Rules) (k : Kind) (i r c : ℕ) (s : State) (rd : CoreRound) (v u : core.Slots) (l : Alternatives) → is_open rd ≡ true → in_slots p k i [] r s.next v ≡ Some u
    → in_task p k i [] (task r c (alternative (frame s rd v) l)) ≡ Some (task r c (alternative (frame s rd u) l))
with_event p k i r c s rd v u l o e =
    ap (λ x. mapped (task r c) (mapped (λ b. alternative b l) x)) (chosen (is_open rd) (mapped (frame s rd) (in_slots p k i [] r s.next v)) o)
    ∙ ap (λ x. mapped (task r c) (mapped (λ b. alternative b l) (mapped (frame s rd) x))) e

-- ---- an event of a slot

-- how a slot goes on in a later round
pub record GoesOn (x y : Progress) : Type 0 where
  pub redone : WasRedone x → WasRedone y
  pub answered : has_answer x ≡ true → has_answer y ≡ true

module _ (code : Compiled) (p : Rules) (o : Tracked) (m : Machine) (c b : ℕ) (f : Forked) (q : ℕ) (rd : Round) (w : Slots) (qs : List Point) (st : Stack) (t : Task)
    (tied : IsTied code p o (section m c b (parcall f q rd w qs st)) t) (first : FirstFrame code p o m c b f q rd w qs st t) where
  abbrev goals : Trees
  goals = instance_all first.is_forked.own first.is_forked.goals

  pub simple_parts : SlotsAreSimple first.slots × AreSimple first.behind
  simple_parts = subst IsSimple first.is tied.simple

  pub found : (i : ℕ) → (place_in i first.slots ≡ None → ⊥) → SlotAt code p q first.forked.next goals w first.slots i
  found i n = slot_at code p q first.forked.next goals w first.slots i first.hold simple_parts.0 tied.quiet.3 n

  -- the task with that progress of slot i
  abbrev pub after : ℕ → Progress → Task
  after i y = task (b - c) c (alternative (frame (untracked first.forked) (round_of rd) (set_in i y first.slots)) first.behind)

  module _ (opened : is_open (round_of rd) ≡ true) (i : ℕ) (at : SlotAt code p q first.forked.next goals w first.slots i) where
    pub happens : (k : Kind) (y : Progress) → at_slot p k (b - c) first.forked.next at.goal false at.progress ≡ Some (false, y) → at_end p k (i ∷ []) t ≡ Some (after i y)
    happens k y event =
        ap (in_task p k i []) first.is
        ∙ with_event p k i (b - c) c (untracked first.forked) (round_of rd) first.slots (set_in i y first.slots) first.behind opened (event-set p k (b - c) first.forked.next i first.slots at.goal at.progress y at.place_at event)

    pub happens_then : (k : Kind) (x y : Progress) → at_slot p k (b - c) first.forked.next at.goal false x ≡ Some (false, y) → at_end p k (i ∷ []) (after i x) ≡ Some (after i y)
    happens_then k x y event =
        with_event p k i (b - c) c (untracked first.forked) (round_of rd) (set_in i x first.slots) (set_in i y (set_in i x first.slots)) first.behind opened
        (event-set p k (b - c) first.forked.next i (set_in i x first.slots) at.goal x y (place-set i first.slots at.goal at.progress x at.place_at) event)
        ∙ ap (λ v. Some (task (b - c) c (alternative (frame (untracked first.forked) (round_of rd) v) first.behind))) (set-twice i x y first.slots)

    module _ (e : Stand (Unit {0})) (h : Held) (y : Progress) (stands : StandsAs (b - c) e (length (tuples_of at.row)) y) (source : HoldsSource code p first.forked.next at.goal h y) (answer : HoldsAnswer code e h)
        (simple : IsSimpleProgress y) (goes_on : GoesOn at.progress y) where
      fits_now : FitsSlot code p q first.forked.next at.goal (standing e at.row) h y
      fits_now = (at.fits.0, subst (λ r. StandsAs r e (length (tuples_of at.row)) y) (sym (open_rest rd q (b - c) opened first.rest)) stands, source)

      hold_now : HoldsSlots code p q first.forked.next goals (stood_in i e h w) (set_in i y first.slots)
      hold_now =
          subst (λ s. HoldsSlots code p q first.forked.next goals s (set_in i y first.slots)) (sym (stood-put i e h w at.row at.row_at))
          (hold-set code p q first.forked.next goals w first.slots i (standing e at.row) h at.goal at.progress y first.hold at.place_at fits_now)

      pub now_tied : IsTied code p o (stood i e h (section m c b (parcall f q rd w qs st))) (after i y)
      now_tied = record {
        holds = first.others (stood_in i e h w) (set_in i y first.slots) hold_now (shut_open rd (rows (stood_in i e h w)) (set_in i y first.slots) opened);
        simple = (simple-set i y first.slots simple_parts.0 simple, simple_parts.1);
        quiet = (tied.quiet.0, same-count rd _ _ _ (length-stood i e h w) tied.quiet.1, tied.quiet.2, quiet-stood code i e h w tied.quiet.3 answer, tied.quiet.4);
        in_order = tied.in_order;
        in_round = round_now rd tied.in_round;
      }
        where
          round_now : (d : Round) → IsInRound (section m c b (parcall f q d w qs st)) t → IsInRound (section m c b (parcall f q d (stood_in i e h w) qs st)) (after i y)
          round_now round.First n = tt
          round_now (round.Draining j) n = tt
          round_now (round.Later j) n = redone-set i j first.slots at.goal at.progress y at.place_at goes_on.redone goes_on.answered (subst (IsRedoneIn j) first.is n)
          round_now round.Closed n = tt

-- ---- a slot that runs

-- from its goal on, or on from an answer
abbrev pub Runs : Progress → Task → ℕ → Type 0
Runs x z d = ((x ≡ busy busy_kind.Running z) × (d ≡ 0)) ⊎ ((m : List Answer) × (x ≡ redone m busy_kind.Running z d))

runs_as : (x : Progress) (z : Task) (d : ℕ) → running_of x ≡ Some z → since_of x ≡ Some d → IsSimpleProgress x → Runs x z d
runs_as (idle i) z d n e s = absurd (none-some _ n)
runs_as (stored m) z d n e s = absurd s
runs_as (busy busy_kind.Running t) z d n e s = inl (ap (busy busy_kind.Running) (same_Some _ _ n), sym (same_Some _ _ e))
runs_as (busy busy_kind.Stopping t) z d n e s = absurd s
runs_as (busy busy_kind.Failed t) z d n e s = absurd (none-some _ n)
runs_as (busy busy_kind.Spent t) z d n e s = absurd (none-some _ n)
runs_as (busy busy_kind.Stopped t) z d n e s = absurd (none-some _ n)
runs_as (busy (busy_kind.Raised x) t) z d n e s = absurd (none-some _ n)
runs_as (core.held m a t c) z d n e s = absurd (none-some _ n)
runs_as (redone m busy_kind.Running t i) z d n e s = inr (m, ap₂ (redone m busy_kind.Running) (same_Some _ _ n) (same_Some _ _ e))
runs_as (redone m busy_kind.Stopping t i) z d n e s = absurd s
runs_as (redone m busy_kind.Failed t i) z d n e s = absurd (none-some _ n)
runs_as (redone m busy_kind.Spent t i) z d n e s = absurd (none-some _ n)
runs_as (redone m busy_kind.Stopped t i) z d n e s = absurd (none-some _ n)
runs_as (redone m (busy_kind.Raised x) t i) z d n e s = absurd (none-some _ n)
runs_as (again m a t c) z d n e s = absurd (none-some _ n)
runs_as (drained m b t i c) z d n e s = absurd s

pub goes_busy : (x y : Progress) (k : Busy) (z : Task) → x ≡ busy k z → GoesOn x y
goes_busy x y k z e = record { redone = λ h. absurd (subst WasRedone e h); answered = λ h. absurd (false≢true (sym (ap has_answer e) ∙ h)) }

pub goes_redone : (x y : Progress) (m : List Answer) (k : Busy) (z : Task) (d : ℕ) → x ≡ redone m k z d → WasRedone y → GoesOn x y
goes_redone x y m k z d e w = record { redone = λ h. w; answered = λ h. absurd (false≢true (sym (ap has_answer e) ∙ h)) }

module _ (code : Compiled) (p : Rules) (o n : Tracked) (m : Machine) (c b : ℕ) (f : Forked) (q : ℕ) (rd : Round) (w : Slots) (qs : List Point) (st : Stack) (t z : Task) (i d : ℕ)
    (tied : IsTied code p o (section m c b (parcall f q rd w qs st)) t) (run : RunsSlot i t n d z) where
  pub run_first : FirstFrame code p o m c b f q rd w qs st t
  run_first = first_running code p o m c b f q rd w qs st t z i tied.holds run.runs

  run_parts : (is_open (round_of rd) ≡ true) × (running_in i run_first.slots ≡ Some z)
  run_parts = Some-if (is_open (round_of rd)) (running_in i run_first.slots) z (sym (ap (running_task i) run_first.is) ∙ run.runs)

  pub run_open : is_open (round_of rd) ≡ true
  run_open = run_parts.0

  pub run_at : SlotAt code p q run_first.forked.next (instance_all run_first.is_forked.own run_first.is_forked.goals) w run_first.slots i
  run_at = found code p o m c b f q rd w qs st t tied run_first i (λ e. none-some _ (sym (running-place i run_first.slots ∙ ap (option_and_then (λ (z : Tree × Recorded). running_of z.1.1)) e) ∙ run_parts.1))

  pub run_as : Runs run_at.progress z d
  run_as =
      runs_as run_at.progress z d
      (sym (running-place i run_first.slots ∙ ap (option_and_then (λ (z : Tree × Recorded). running_of z.1.1)) run_at.place_at) ∙ run_parts.1)
      (sym (since-place i run_first.slots ∙ ap (option_and_then (λ (z : Tree × Recorded). since_of z.1.1)) run_at.place_at) ∙ sym (ap (since i) run_first.is) ∙ run.before)
      run_at.simple

  pub run_origin : n ≡ alone run_at.goal run_first.forked.next
  run_origin = same_Some _ _ (sym run.origin ∙ ap (origin_of i) run_first.is ∙ origin-place i run_first.forked.next run_first.slots ∙ ap (mapped (λ (z : Tree × Recorded). alone z.0 run_first.forked.next)) run_at.place_at)
