-- Slots that run and come to an end without an answer.
use Rattle.std.proofs.Common.{◌≡◌, ℕ, ◌-◌, ◌⊎◌, inl, inr, true, false, ◌&&◌, List, [], ◌∷◌, Option, Some, refl, ap, sym, ◌∙◌, subst}
use Rattle.std.specs.Prelude.{length, option_and_then}
use Rattle.std.proofs.lemmas.Bool.{false≢true}
use Rattle.std.proofs.lemmas.Option.{same_Some}
use Rattle.ap_term.specs.Substitution.{instance_all}
use Rattle.ap_core.specs.declared.events.Kind.TheVariants as kinds
use Rattle.ap_core.specs.declared.tasks.Busy.{Busy}
use Rattle.ap_core.specs.declared.tasks.Busy.TheVariants as busy_kind
use Rattle.ap_core.specs.declared.tasks.Idle.TheVariants as idle_kind
use Rattle.ap_core.specs.Tasks as core
use Rattle.ap_core.specs.Tasks.{Answer, Task, Progress, idle, stored, busy, again, redone, drained}
use Rattle.ap_core.specs.Conditions.{is_exhausted, spent_by, stopped_cost}
use Rattle.ap_core.specs.Relation.{Rules, has_spent, recorded, stand, asked, failing, spending, stopped_slot, only_if, mapped}
use Rattle.ap_core.specs.Lifting.{at_end}
use Rattle.ap_frames.specs.declared.frame.Round.{Round}
use Rattle.ap_frames.specs.declared.slots.Stand.{Stand}
use Rattle.ap_frames.specs.declared.slots.Stand.TheVariants.{Ready, Waiting, Running, Answered, Replayed, Ended, GivenBack}
use Rattle.ap_frames.specs.declared.slots.Run.TheVariants as runs
use Rattle.ap_frames.specs.declared.slots.Ending.{Ending}
use Rattle.ap_frames.specs.declared.slots.Ending.TheVariants as ending
use Rattle.ap_frames.specs.Slots.{tuples_of, stands_first, may_be_given_back}
use Rattle.ap_parcall_laws.specs.Alike.{busy_of, EndsAs, StandsAs}
use Rattle.ap_tracked.specs.Tracked.{Tracked}
use Rattle.ap_instr.specs.Code.{Compiled}
use Rattle.ap_standing.specs.Machine.{Point, Machine}
use Rattle.ap_group.specs.Groups.{Forked}
use Rattle.ap_tie.specs.Sections.{Row, Section, section, Stack, bottom, parcall, Slots, nothing, rows}
use Rattle.ap_tied.specs.Happened.{happened}
use Rattle.ap_tied.specs.Ties.{IsUnasked, IsSimpleProgress, WasRedone, IsTied}
use Rattle.ap_tied.specs.SlotCalls.{row_in, stood, RunsSlot}
use Rattle.ap_tied.proofs.Places.{get-nth, nth-from-one, SlotAt}
use Rattle.ap_tied.proofs.SlotEvents.{FirstFrame, GoesOn, Runs, none_runs, after, happens, happens_then, now_tied, goes_busy, goes_redone, run_first, run_open, run_at, run_as}

-- with that end
abbrev ended_as : Busy → Progress → Progress
ended_as x (idle i) = idle i
ended_as x (stored m) = stored m
ended_as x (busy y t) = busy x t
ended_as x (core.held m a t c) = core.held m a t c
ended_as x (redone m y t i) = redone m x t i
ended_as x (again m a t c) = again m a t c
ended_as x (drained m y t i e) = drained m x t i e

stand_ended : (g : Busy → Task → Option Busy) (k y : Busy) (z : Task) → g k z ≡ Some y → (x : Progress) (d : ℕ) → ((x ≡ busy k z) ⊎ ((m : List Answer) × (x ≡ redone m k z d))) → stand g x ≡ Some (ended_as y x)
stand_ended g k y z h x d (inl e) = ap (stand g) e ∙ ap (mapped (λ j. busy j z)) h ∙ ap (λ j. Some (ended_as y j)) (sym e)
stand_ended g k y z h x d (inr (m, e)) = ap (stand g) e ∙ ap (mapped (λ j. redone m j z d)) h ∙ ap (λ j. Some (ended_as y j)) (sym e)

goes_ended : (y : Busy) (x : Progress) (z : Task) (d : ℕ) → Runs x z d → GoesOn x (ended_as y x)
goes_ended y x z d (inl (e, f)) = goes_busy x (ended_as y x) busy_kind.Running z e
goes_ended y x z d (inr (m, e)) = goes_redone x (ended_as y x) m busy_kind.Running z d e (subst (λ j. WasRedone (ended_as y j)) (sym e) tt)

ended_unasked : (e : Ending) → IsUnasked (busy_of e)
ended_unasked ending.Failed = tt
ended_unasked ending.Spent = tt
ended_unasked ending.Stopped = tt
ended_unasked (ending.Raised x) = tt

simple_ended : (e : Ending) (x : Progress) (z : Task) (d : ℕ) → Runs x z d → IsSimpleProgress (ended_as (busy_of e) x)
simple_ended e x z d (inl (h, f)) = subst (λ j. IsSimpleProgress (ended_as (busy_of e) j)) (sym h) (ended_unasked e)
simple_ended e x z d (inr (m, h)) = subst (λ j. IsSimpleProgress (ended_as (busy_of e) j)) (sym h) (ended_unasked e)

stands_ended : (e : Ending) (x : Progress) (z : Task) (r d cost : ℕ) → Runs x z d → cost ≡ stopped_cost r d (busy_of e) z → EndsAs r e cost (ended_as (busy_of e) x)
stands_ended e x z r d cost (inl (h, f)) k = inl (z, ap (ended_as (busy_of e)) h, k ∙ ap (λ j. stopped_cost r j (busy_of e) z) f)
stands_ended e x z r d cost (inr (m, h)) k = inr (inl (m, z, d, ap (ended_as (busy_of e)) h, k))

runs_plainly : (x : Progress) (z : Task) (d : ℕ) → Runs x z d → (x ≡ busy busy_kind.Running z) ⊎ ((m : List Answer) × (x ≡ redone m busy_kind.Running z d))
runs_plainly x z d (inl (e, f)) = inl e
runs_plainly x z d (inr e) = inr e

-- one that was asked to stop
stops_asked : (x : Progress) (z : Task) (d : ℕ) → Runs x z d → stopped_slot (ended_as busy_kind.Stopping x) ≡ Some (ended_as busy_kind.Stopped x)
stops_asked x z d (inl (e, f)) = ap (λ j. stopped_slot (ended_as busy_kind.Stopping j)) e ∙ ap (λ j. Some (ended_as busy_kind.Stopped j)) (sym e)
stops_asked x z d (inr (m, e)) = ap (λ j. stopped_slot (ended_as busy_kind.Stopping j)) e ∙ ap (λ j. Some (ended_as busy_kind.Stopped j)) (sym e)

not_both : (x : Progress) (b : Busy) (t : Task) (m : List Answer) (z : Task) (d : ℕ) → x ≡ busy b t → x ≡ redone m busy_kind.Running z d → ⊥
not_both x b t m z d k e = let f : busy b t ≡ redone m busy_kind.Running z d = sym k ∙ e in absurd (cc)

-- one that runs from its goal on
first_busy : (r n : ℕ) (e : Stand (Unit {0})) (x : Progress) (z : Task) (d : ℕ) → stands_first e ≡ true → StandsAs r e n x → Runs x z d → x ≡ busy busy_kind.Running z
first_busy r n e x z d h s (inl (k, f)) = k
first_busy r n (Running runs.First) x z d h s (inr (m, is)) = absurd (not_both x s.0 s.1 m z d s.2 is)
first_busy r n (Running runs.Redone) x z d h s (inr (m, is)) = absurd (false≢true h)
first_busy r n (Running runs.Drained) x z d h s (inr (m, is)) = absurd (false≢true h)
first_busy r n Ready x z d h s (inr (m, is)) = absurd (false≢true h)
first_busy r n Waiting x z d h s (inr (m, is)) = absurd (false≢true h)
first_busy r n GivenBack x z d h s (inr (m, is)) = absurd (false≢true h)
first_busy r n (Answered a) x z d h s (inr (m, is)) = absurd (false≢true h)
first_busy r n (Replayed k) x z d h s (inr (m, is)) = absurd (false≢true h)
first_busy r n (Ended e c) x z d h s (inr (m, is)) = absurd (false≢true h)

module _ (code : Compiled) (p : Rules) (o n : Tracked) (m : Machine) (c b : ℕ) (f : Forked) (q : ℕ) (rd : Round) (w : Slots) (qs : List Point) (st : Stack) (t z : Task) (i d : ℕ)
    (tied : IsTied code p o (section m c b (parcall f q rd w qs st)) t) (run : RunsSlot i t n d z) where
  abbrev first : FirstFrame code p o m c b f q rd w qs st t
  first = run_first code p o n m c b f q rd w qs st t z i d tied run

  abbrev at : SlotAt code p q first.forked.next (instance_all first.is_forked.own first.is_forked.goals) w first.slots i
  at = run_at code p o n m c b f q rd w qs st t z i d tied run

  abbrev as_now : Runs at.progress z d
  as_now = run_as code p o n m c b f q rd w qs st t z i d tied run

  -- the task in which the slot has that end
  abbrev ended_task : Busy → Task
  ended_task y = after code p o m c b f q rd w qs st t tied first i (ended_as y at.progress)

  ended_tied : (e : Ending) (cost : ℕ) → cost ≡ stopped_cost (b - c) d (busy_of e) z → IsTied code p o (stood i (Ended e cost) nothing (section m c b (parcall f q rd w qs st))) (ended_task (busy_of e))
  ended_tied e cost k =
      now_tied code p o m c b f q rd w qs st t tied first (run_open code p o n m c b f q rd w qs st t z i d tied run) i at (Ended e cost) nothing (ended_as (busy_of e) at.progress)
      (stands_ended e at.progress z (b - c) d cost as_now k) tt refl (simple_ended e at.progress z d as_now) (goes_ended (busy_of e) at.progress z d as_now)

  stands_as : (g : Busy → Task → Option Busy) (y : Busy) → g busy_kind.Running z ≡ Some y → recorded false (stand g at.progress) ≡ Some (false, ended_as y at.progress)
  stands_as g y h = ap (recorded false) (stand_ended g busy_kind.Running y z h at.progress d (runs_plainly at.progress z d as_now))

  fails_first : is_exhausted z ≡ true → (u : Task) × (at_end p kinds.Fail (i ∷ []) t ≡ Some u) × IsTied code p o (stood i (Ended ending.Failed (spent_by z - d)) nothing (section m c b (parcall f q rd w qs st))) u
  fails_first ended = (
    ended_task busy_kind.Failed,
    happens code p o m c b f q rd w qs st t tied first (run_open code p o n m c b f q rd w qs st t z i d tied run) i at kinds.Fail (ended_as busy_kind.Failed at.progress)
        (stands_as failing busy_kind.Failed (ap (λ j. only_if (true && j) busy_kind.Failed) ended)),
    ended_tied ending.Failed (spent_by z - d) refl,
  )

  spends_first : has_spent p.loud z ≡ true → (u : Task) × (at_end p kinds.Spend (i ∷ []) t ≡ Some u) × IsTied code p o (stood i (Ended ending.Spent (b - c)) nothing (section m c b (parcall f q rd w qs st))) u
  spends_first spent = (
    ended_task busy_kind.Spent,
    happens code p o m c b f q rd w qs st t tied first (run_open code p o n m c b f q rd w qs st t z i d tied run) i at kinds.Spend (ended_as busy_kind.Spent at.progress)
        (stands_as (spending p.loud) busy_kind.Spent (ap (λ j. only_if (true && j) busy_kind.Spent) spent)),
    ended_tied ending.Spent (b - c) refl,
  )

  stops_first : (u : Task) × (happened p ((kinds.Stop, i ∷ []) ∷ (kinds.Stopped, i ∷ []) ∷ []) t ≡ Some u) × IsTied code p o (stood i (Ended ending.Stopped (spent_by z - d)) nothing (section m c b (parcall f q rd w qs st))) u
  stops_first = (
    ended_task busy_kind.Stopped,
    ap (option_and_then (happened p ((kinds.Stopped, i ∷ []) ∷ [])))
        (happens code p o m c b f q rd w qs st t tied first (run_open code p o n m c b f q rd w qs st t z i d tied run) i at kinds.Stop (ended_as busy_kind.Stopping at.progress) (stands_as asked busy_kind.Stopping refl))
        ∙ ap (option_and_then (happened p []))
        (happens_then code p o m c b f q rd w qs st t tied first (run_open code p o n m c b f q rd w qs st t z i d tied run) i at kinds.Stopped (ended_as busy_kind.Stopping at.progress) (ended_as busy_kind.Stopped at.progress)
        (ap (recorded false) (stops_asked at.progress z d as_now))),
    ended_tied ending.Stopped (spent_by z - d) refl,
  )

  gives_back_first : stands_first at.row.stand ≡ true → (u : Task) × (at_end p kinds.Stopped (i ∷ []) t ≡ Some u) × IsTied code p o (stood i GivenBack nothing (section m c b (parcall f q rd w qs st))) u
  gives_back_first runs_first =
      let is_busy = first_busy q (length (tuples_of at.row)) at.row.stand at.progress z d runs_first at.fits.1 as_now in (
        after code p o m c b f q rd w qs st t tied first i (idle idle_kind.GivenBack),
        happens code p o m c b f q rd w qs st t tied first (run_open code p o n m c b f q rd w qs st t z i d tied run) i at kinds.Stopped (idle idle_kind.GivenBack) (ap (λ x. recorded false (stopped_slot x)) is_busy),
        now_tied code p o m c b f q rd w qs st t tied first (run_open code p o n m c b f q rd w qs st t z i d tied run) i at GivenBack nothing (idle idle_kind.GivenBack) refl tt refl tt
            (goes_busy at.progress (idle idle_kind.GivenBack) busy_kind.Running z is_busy),
      )

pub fails : (code : Compiled) (p : Rules) (o n : Tracked) (s : Section) (t z : Task) (i d : ℕ) → IsTied code p o s t → RunsSlot i t n d z → is_exhausted z ≡ true
    → (u : Task) × (at_end p kinds.Fail (i ∷ []) t ≡ Some u) × IsTied code p o (stood i (Ended ending.Failed (spent_by z - d)) nothing s) u
fails code p o n (section m c b bottom) t z i d tied run ended = absurd (none_runs code p o m c b t z i tied.holds run.runs)
fails code p o n (section m c b (parcall f q rd w qs st)) t z i d tied run ended = fails_first code p o n m c b f q rd w qs st t z i d tied run ended

pub spends : (code : Compiled) (p : Rules) (o n : Tracked) (m : Machine) (c b : ℕ) (st : Stack) (t z : Task) (i d : ℕ) → IsTied code p o (section m c b st) t → RunsSlot i t n d z → has_spent p.loud z ≡ true
    → (u : Task) × (at_end p kinds.Spend (i ∷ []) t ≡ Some u) × IsTied code p o (stood i (Ended ending.Spent (b - c)) nothing (section m c b st)) u
spends code p o n m c b bottom t z i d tied run spent = absurd (none_runs code p o m c b t z i tied.holds run.runs)
spends code p o n m c b (parcall f q rd w qs st) t z i d tied run spent = spends_first code p o n m c b f q rd w qs st t z i d tied run spent

pub stops : (code : Compiled) (p : Rules) (o n : Tracked) (s : Section) (t z : Task) (i d : ℕ) → IsTied code p o s t → RunsSlot i t n d z
    → (u : Task) × (happened p ((kinds.Stop, i ∷ []) ∷ (kinds.Stopped, i ∷ []) ∷ []) t ≡ Some u) × IsTied code p o (stood i (Ended ending.Stopped (spent_by z - d)) nothing s) u
stops code p o n (section m c b bottom) t z i d tied run = absurd (none_runs code p o m c b t z i tied.holds run.runs)
stops code p o n (section m c b (parcall f q rd w qs st)) t z i d tied run = stops_first code p o n m c b f q rd w qs st t z i d tied run

pub gives_back : (code : Compiled) (p : Rules) (o n : Tracked) (m : Machine) (c b : ℕ) (f : Forked) (q : ℕ) (rd : Round) (w : Slots) (qs : List Point) (st : Stack) (t z : Task) (i d : ℕ) (x : Row)
    → IsTied code p o (section m c b (parcall f q rd w qs st)) t → RunsSlot i t n d z → row_in i w ≡ Some x → may_be_given_back x ≡ true
    → (u : Task) × (at_end p kinds.Stopped (i ∷ []) t ≡ Some u) × IsTied code p o (stood i GivenBack nothing (section m c b (parcall f q rd w qs st))) u
gives_back code p o n m c b f q rd w qs st t z i d x tied run row first =
    let at = run_at code p o n m c b f q rd w qs st t z i d tied run in
    let here : Some at.row ≡ Some x = sym at.row_at ∙ sym (get-nth i (rows w) (nth-from-one i (rows w) at.row at.row_at)) ∙ row in
    gives_back_first code p o n m c b f q rd w qs st t z i d tied run (ap may_be_given_back (same_Some _ _ here) ∙ first)
