-- Events of sections that run a slot's goal.
use Rattle.std.proofs.Common.{◌≡◌, ℕ, zero, suc, ◌-◌, inl, inr, true, if◌then◌else◌, List, [], ◌∷◌, ◌++◌, Some, None, refl, ap, sym, ◌∙◌}
use Rattle.std.specs.List.{AllZip}
use Rattle.std.proofs.lemmas.Bool.{false≢true}
use Rattle.std.proofs.lemmas.Option.{none-some}
use Rattle.ap_term.specs.Tree.{Tree, Trees, none, more}
use Rattle.ap_term.specs.Search.{State}
use Rattle.ap_term.specs.Substitution.{instance_all}
use Rattle.ap_core.specs.declared.events.Kind.{Kind}
use Rattle.ap_core.specs.declared.tasks.Round.{Round as CoreRound}
use Rattle.ap_core.specs.Tasks as core
use Rattle.ap_core.specs.Tasks.{Answer, Task, task, Alternatives, exhausted, alternative, Alternative, state, frame, Progress, idle, stored, busy, redone, again, drained}
use Rattle.ap_core.specs.Conditions.{is_running, is_open}
use Rattle.ap_core.specs.Relation.{Rules, in_task, in_slots, mapped}
use Rattle.ap_core.specs.Lifting.{running_of, running_in, running_task, at_end}
use Rattle.ap_core.proofs.Lifted.{filled, in_filled, chosen}
use Rattle.ap_core.proofs.Options.{Some-if}
use Rattle.ap_frames.specs.declared.slots.Stand.{Stand}
use Rattle.ap_frames.specs.declared.slots.Stand.TheVariants.{Ready, Waiting, Running, Answered, Replayed, Ended, GivenBack}
use Rattle.ap_frames.specs.declared.slots.Run.TheVariants.{First, Redone, Drained}
use Rattle.ap_frames.specs.declared.slots.Ending.{Ending}
use Rattle.ap_frames.specs.declared.slots.Ending.TheVariants.{Failed, Spent, Stopped, Raised}
use Rattle.ap_frames.specs.declared.frame.Round.{Round}
use Rattle.ap_frames.specs.declared.frame.Round.TheVariants as round
use Rattle.ap_parcall_laws.specs.Alike.{busy_of, StandsAs, HasAnswer}
use Rattle.ap_tracked.specs.Tracked.{Tracked, untracked}
use Rattle.ap_instr.specs.Code.{Compiled}
use Rattle.ap_standing.specs.Holds.{Holds}
use Rattle.ap_tie.specs.Sections as views
use Rattle.ap_tie.specs.Sections.{Row, Section, section, Stack, bottom, parcall, Slots, no_slot, slot, Held, nothing, rows}
use Rattle.ap_tie.specs.Shows.{Shows, before}
use Rattle.ap_tie.specs.Tied.{round_of, IsShutIn, HoldsTask, HoldsSlots, HoldsSource}
use Rattle.ap_tie.specs.Open.{origin_in, origin_of, places_of, LiftLaw, OpenLaw}
use Rattle.ap_tie.proofs.Cleared.{open-round, open-stands, stands-there}

-- ---- a slot that runs

-- one of these doesn't run
not_running : (x y : Progress) (z : Task) → x ≡ y → running_of y ≡ None → running_of x ≡ Some z → ⊥
not_running x y z e n h = none-some _ (sym n ∙ sym (ap running_of e) ∙ h)

ended : (e : Ending) (t : Task) → (if is_running (busy_of e) then Some t else None) ≡ None
ended Failed t = refl
ended Spent t = refl
ended Stopped t = refl
ended (Raised f) t = refl

answer_rests : (t : Task) (c : ℕ) (x : Progress) (z : Task) → HasAnswer t c x → running_of x ≡ Some z → ⊥
answer_rests t c x z (m, a, inl e) h = not_running x (core.held m a t c) z e refl h
answer_rests t c x z (m, a, inr e) h = not_running x (again m a t c) z e refl h

stands_filled : {S : Type 0} (r n : ℕ) (s : Stand S) (x : Progress) (z y : Task) → running_of x ≡ Some z → StandsAs r s n x → StandsAs r s n (filled x y)
stands_filled r n Ready x z y h k = absurd (not_running x _ z k refl h)
stands_filled r n Waiting x z y h (inl k) = absurd (not_running x _ z k.0 refl h)
stands_filled r n Waiting x z y h (inr (a, rest, k, l)) = absurd (not_running x (stored (a ∷ rest)) z k refl h)
stands_filled r n GivenBack x z y h k = absurd (not_running x _ z k refl h)
stands_filled r n (Running First) x z y h (b, t, e, k) = (b, y, ap (λ v. filled v y) e, k)
stands_filled r n (Running Redone) x z y h (m, b, t, i, e, k) = (m, b, y, i, ap (λ v. filled v y) e, k)
stands_filled r n (Running Drained) x z y h (m, b, t, i, d, e, k) = (m, b, y, i, d, ap (λ v. filled v y) e, k)
stands_filled r n (Answered a) x z y h (t, k, l) = absurd (answer_rests t a.cost x z k h)
stands_filled r n (Replayed j) x z y h (q, c, rest, k, l) = absurd (answer_rests _ 0 x z k h)
stands_filled r n (Ended e c) x z y h (inl (t, k, l)) = absurd (not_running x (busy (busy_of e) t) z k (ended e t) h)
stands_filled r n (Ended e c) x z y h (inr (inl (m, t, i, k, l))) = absurd (not_running x (redone m (busy_of e) t i) z k (ended e t) h)
stands_filled r n (Ended e c) x z y h (inr (inr (m, t, i, d, k))) = absurd (not_running x (drained m (busy_of e) t i d) z k (ended e t) h)

source_filled : (code : Compiled) (p : Rules) (b : ℕ) (g : Tree) (h : Held) (x : Progress) (z y : Task) → running_of x ≡ Some z → HoldsSource code p b g h x → HoldsSource code p b g h (filled x y)
source_filled code p b g nothing x z y n s = tt
source_filled code p b g (views.held a) x z y n (at, (m, e, t, v, c, source, comes, is_of, inl k)) = absurd (not_running x (core.held m e t c) z k refl n)
source_filled code p b g (views.held a) x z y n (at, (m, e, t, v, c, source, comes, is_of, inr k)) = absurd (not_running x (again m e t c) z k refl n)

-- ---- slots, stacks, sections

-- the event at slot i leaves these
record Lifted (code : Compiled) (p : Rules) (q r b d : ℕ) (gs : Trees) (w : Slots) (v u : core.Slots) (k : Kind) (path : List ℕ) (i : ℕ) (y : Task) : Type 0 where
  event : in_slots p k i path r d v ≡ Some u
  runs : running_in i u ≡ Some y
  origin : origin_in i d u ≡ origin_in i d v
  hold : HoldsSlots code p q b gs w u

lift_slots : (code : Compiled) (p : Rules) (q r b d : ℕ) (gs : Trees) (w : Slots) (v : core.Slots) (k : Kind) (path : List ℕ) (i : ℕ) (z y : Task)
    → HoldsSlots code p q b gs w v → running_in i v ≡ Some z → at_end p k path z ≡ Some y → (u : core.Slots) × Lifted code p q r b d gs w v u k path i y
lift_slots code p q r b d none no_slot v k path i z y h n e = absurd (none-some _ (sym (ap (running_in i) h) ∙ n))
lift_slots code p q r b d none (slot x j w) v k path i z y h n e = absurd h
lift_slots code p q r b d (more g gs) no_slot v k path i z y h n e = absurd h
lift_slots code p q r b d (more g gs) (slot x j w) v k path zero z y (o, a, u, l, rest, is) n e = absurd (none-some _ (sym (ap (running_in 0) is) ∙ n))
lift_slots code p q r b d (more g gs) (slot x j w) v k path (suc zero) z y (o, a, u, l, rest, is) n e =
    let m : running_of a ≡ Some z = sym (ap (running_in 1) is) ∙ n in
    let f = in_filled p k path r d g o a z y m e in (
      core.slot g o (filled a y) u,
      record {
        event = ap (in_slots p k 1 path r d) is ∙ ap (mapped (λ c. core.slot g c.0 c.1 u)) f.0;
        runs = f.1;
        origin = sym (ap (origin_in 1 d) is);
        hold = (o, filled a y, u, (l.0, stands_filled q (_) x.stand a z y m l.1, source_filled code p b g j a z y m l.2), rest, refl);
      },
    )
lift_slots code p q r b d (more g gs) (slot x j w) v k path (suc (suc i)) z y (o, a, u, l, rest, is) n e =
    let f = lift_slots code p q r b d gs w u k path (suc i) z y rest (sym (ap (running_in (suc (suc i))) is) ∙ n) e in (
      core.slot g o a f.0,
      record {
        event = ap (in_slots p k (suc (suc i)) path r d) is ∙ ap (mapped (core.slot g o a)) f.1.event;
        runs = f.1.runs;
        origin = f.1.origin ∙ sym (ap (origin_in (suc (suc i)) d) is);
        hold = (o, a, f.0, l, f.1.hold, refl);
      },
    )

record LiftedTask (code : Compiled) (p : Rules) (o : Tracked) (s : Section) (t u : Task) (k : Kind) (path : List ℕ) (i : ℕ) (y : Task) : Type 0 where
  event : in_task p k i path t ≡ Some u
  hold : HoldsTask code p o s u
  runs : running_task i u ≡ Some y
  origin : origin_of i u ≡ origin_of i t

-- a round with slots that run isn't closed
pub shut_open : (rd : Round) (xs : List Row) (v : core.Slots) → is_open (round_of rd) ≡ true → IsShutIn rd xs v
shut_open round.First xs v h = tt
shut_open (round.Draining n) xs v h = tt
shut_open (round.Later i) xs v h = tt
shut_open round.Closed xs v h = absurd (false≢true h)

-- where a frame comes first
open_slots : (code : Compiled) (p : Rules) (o : Tracked) (i : ℕ) (z : Task) (r c : ℕ) (s : State) (rd : CoreRound) (v : core.Slots) (l : Alternatives) → running_task i (task r c (alternative (frame s rd v) l)) ≡ Some z
    → (is_open rd ≡ true) × (running_in i v ≡ Some z)
open_slots code p o i z r c s rd v l n = Some-if (is_open rd) (running_in i v) z n

-- where the frame's round is open
with_event : (p : Rules) (k : Kind) (path : List ℕ) (i r c : ℕ) (s : State) (rd : CoreRound) (v u : core.Slots) (l : Alternatives) → is_open rd ≡ true → in_slots p k i path r s.next v ≡ Some u
    → in_task p k i path (task r c (alternative (frame s rd v) l)) ≡ Some (task r c (alternative (frame s rd u) l))
with_event p k path i r c s rd v u l o e =
    ap (λ x. mapped (task r c) (mapped (λ b. alternative b l) x)) (chosen (is_open rd) (mapped (frame s rd) (in_slots p k i path r s.next v)) o)
    ∙ ap (λ x. mapped (task r c) (mapped (λ b. alternative b l) (mapped (frame s rd) x))) e

lift_frame : (code : Compiled) (p : Rules) (o : Tracked) (i : ℕ) (t z y : Task) (k : Kind) (path : List ℕ) (s : Section) → HoldsTask code p o s t → running_task i t ≡ Some z → at_end p k path z ≡ Some y
    → (u : Task) × LiftedTask code p o s t u k path i y
lift_frame code p o i t z y k path (section m c b bottom) (ss, xs, l, holds, shown, stack, is) n e = absurd (none_runs xs ss shown (sym (ap (running_task i) (is ∙ ap (λ v. task (b - c) c (before xs v)) stack)) ∙ n))
  where
    none_runs : (xs : List Alternative) (ss : List Tracked) → AllZip (Shows p.program o) ss xs → running_task i (task (b - c) c (before xs exhausted)) ≡ Some z → ⊥
    none_runs [] ss h n = none-some _ n
    none_runs (state a ∷ xs) ss h n = none-some _ n
    none_runs (frame a rd w ∷ xs) [] h n = absurd h
    none_runs (frame a rd w ∷ xs) (s ∷ ss) h n = absurd h.0
lift_frame code p o i t z y k path (section m c b (parcall f q rd w qs st)) (ss, xs, l, holds, shown, (s, j, v, sv, ys, older, kept, rest, shut, left, points, shows, stack, whole), is) n e = go ss xs holds shown is
  where
    Result : Type 0
    Result = (u : Task) × LiftedTask code p o (section m c b (parcall f q rd w qs st)) t u k path i y

    r : ℕ
    r = b - c

    go : (ss : List Tracked) (xs : List Alternative) → Holds code m ss → AllZip (Shows p.program o) ss xs → t ≡ task r c (before xs l) → Result
    go [] [] h shown is =
        let here : t ≡ task r c (alternative (frame (untracked s) (round_of rd) v) (before ys older)) = is ∙ ap (task r c) whole in
        let is_open_now = open_slots code p o i z r c (untracked s) (round_of rd) v (before ys older) (sym (ap (running_task i) here) ∙ n) in
        let slots = open-stands rd w v _ (open-round rd is_open_now.0) left in
        let f = lift_slots code p q r s.next s.next (instance_all j.own j.goals) w v k path i z y slots is_open_now.1 e in (
          task r c (alternative (frame (untracked s) (round_of rd) f.0) (before ys older)),
          record {
            event = ap (in_task p k i path) here ∙ with_event p k path i r c (untracked s) (round_of rd) v f.0 (before ys older) is_open_now.0 f.1.event;
            hold = (
              [],
              [],
              alternative (frame (untracked s) (round_of rd) f.0) (before ys older),
              h,
              tt,
              (s, j, f.0, sv, ys, older, kept, rest, shut_open rd (rows w) f.0 is_open_now.0, stands-there code p q s.next (instance_all j.own j.goals) rd w f.0 f.1.hold, points, shows, stack, refl),
              refl,
            );
            runs = chosen (is_open (round_of rd)) (running_in i f.0) is_open_now.0 ∙ f.1.runs;
            origin = f.1.origin ∙ sym (ap (origin_of i) here);
          },
        )
    go [] (x ∷ xs) h shown is = absurd shown
    go (a ∷ ss) [] h shown is = absurd shown
    go (a ∷ ss) (frame x d v ∷ xs) h shown is = absurd shown.0
    go (a ∷ ss) (state x ∷ xs) h shown is = absurd (none-some _ (sym (ap (running_task i) is) ∙ n))

pub lift : LiftLaw
lift code p o s i t z y k path h n e = let f = lift_frame code p o i t z y k path s h n e in (f.0, f.1.event, f.1.hold, f.1.runs, f.1.origin)

pub opens : OpenLaw
opens code p o [] s w t k path h f = f o t (refl, refl) h
opens code p o (a ∷ outer) s w t k path (h, (z, runs, n, is, inner)) f =
    let r = opens code p n outer s w z k path inner (λ m x j. f m x (z, runs, n, is, j)) in
    let l = lift_frame code p o a.1 t z r.0 k (places_of outer ++ path) a.0 h runs r.1 in
    (l.0, l.1.event, (l.1.hold, (r.0, l.1.runs, n, l.1.origin ∙ is, r.2)))
