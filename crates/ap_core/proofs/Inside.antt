-- The events of slots are events of the erased slots, along any path.
use Rattle.std.proofs.Common.{◌≡◌, ℕ, zero, suc, ◌+◌, ◌-◌, ◌<◌, ◌≤◌, ◌⊎◌, inl, inr, nat_lt, Bool, true, false, not, is_none, ◌&&◌, if◌then◌else◌, List, [], ◌∷◌, ◌++◌, map, Option, Some, None, refl, ap, sym, ◌∙◌, subst, arith}
use Rattle.std.proofs.lemmas.Bool.{false≢true, not-true, ltb-false, and_parts}
use Rattle.std.proofs.lemmas.List.{map-append}
use Rattle.ap_term.specs.declared.faults.Fault.{Fault}
use Rattle.ap_term.specs.Tree.{Tree, Trees, none, more}
use Rattle.ap_term.specs.Goals.{Part, call, group, Program, plain_goals}
use Rattle.ap_term.specs.WellFormed.{IsProgram}
use Rattle.ap_term.specs.Search.{State, by_goals}
use Rattle.ap_laws.specs.Plain as plain
use Rattle.ap_laws.specs.Plain.{Plain, Ways, plain_by, plain_of, next_of, plain_ways, AreGroups, HasFullGroups, goals_left}
use Rattle.ap_laws.specs.Tasks as laws
use Rattle.ap_laws.specs.Tasks.{edge_slots}
use Rattle.ap_laws.specs.Events as events
use Rattle.ap_laws.specs.Events.{Step, Turn, Spin, Forgets, forget_here, forget_past_fresh, forget_past_stored}
use Rattle.ap_laws.specs.Graft.{alone}
use Rattle.ap_laws.specs.Rejoining.{IsSpent, IsRaised}
use Rattle.ap_laws.proofs.Invariant.{TaskInvariant, Strong, Pivot}
use Rattle.ap_core.specs.declared.tasks.Round.{Round}
use Rattle.ap_core.specs.declared.tasks.Round.TheVariants.{First, Later, Closed}
use Rattle.ap_core.specs.declared.tasks.Idle.{Idle}
use Rattle.ap_core.specs.declared.tasks.Idle.TheVariants.{Ready, Waiting, GivenBack}
use Rattle.ap_core.specs.declared.tasks.Busy.{Busy}
use Rattle.ap_core.specs.declared.tasks.Busy.TheVariants.{Running, Stopping, Failed, Spent, Stopped, Raised}
use Rattle.ap_core.specs.declared.events.Kind.{Kind}
use Rattle.ap_core.specs.declared.events.Kind.TheVariants as kinds
use Rattle.ap_core.specs.Tasks.{Answer, Task, task, Alternatives, exhausted, alternative, state, frame, Slots, no_slot, slot, Progress, idle, stored, busy, held, redone, again, drained}
use Rattle.ap_core.specs.Conditions.{has_goals, is_done, fault_at, is_running, is_open, is_exhausted, spent_by, left_edge, leftmost, Verdict, wait, joins, breaks, drains, raises, spends, verdict}
use Rattle.ap_core.specs.Relation.{Rules, only_if, mapped, plain_answer, own, answer, is_over, has_spent, fault_by, met, started, is_startable, start_slot, answer_slot, stand, failing, spending, raising, asked, stopping, given_back, stopped_slot, own_slot, forgotten, Recorded, recorded, at_slot, in_task, in_slots, in_slot}
use Rattle.ap_core.specs.Erased.{erased, erased_alternatives, erased_slots, erased_slot}
use Rattle.ap_core.specs.Heeding.{Heeds}
use Rattle.ap_core.proofs.Options.{Some-only_if, Some-if, Some-mapped, Star, here, onward, Star-one, Star-map}
use Rattle.ap_core.proofs.Fine.{IsGiven, Stands, AreWaiting, Where, past, beyond, undrained, next_to, Drains, Fine, FineHeldTask, FineOpen, FineBegun, FineLater}
use Rattle.ap_core.proofs.Erasing.{FineFirst-FineBehind, left_edge-FineOpen, left_edge-FineLater, IsSlotSpent-FineOpen, IsSlotSpent-FineLater, IsSlotRaised-FineOpen, IsSlotRaised-FineLater, FineOpen-AreWaiting}
use Rattle.ap_core.proofs.Judging.{Unfailed, all_joins, one_raises, edge_above, one_spent, one_waits, FirstMeans, first_breaks, first_drains, first_above, first_else, first_means, LaterMeans, later_breaks, later_above, later_else, later_means}
use Rattle.ap_core.proofs.Draining.{FineOpen-anywhere}
use Rattle.ap_core.proofs.OwnEvents.{Made, Made-own, some_left, next_of-forked}

-- ---- a spent budget, and a fault that was met

is_over-spends : (v : Verdict) → is_over v ≡ true → v ≡ spends
is_over-spends wait h = absurd (false≢true h)
is_over-spends (joins e) h = absurd (false≢true h)
is_over-spends (breaks e) h = absurd (false≢true h)
is_over-spends (drains i x) h = absurd (false≢true h)
is_over-spends (raises n e) h = absurd (false≢true h)
is_over-spends spends h = refl

fault_by-raises : (v : Verdict) (e : Fault) → fault_by v ≡ Some e → (n : ℕ) × (v ≡ raises n e)
fault_by-raises wait e h = absurd (cc)
fault_by-raises (joins n) e h = absurd (cc)
fault_by-raises (breaks n) e h = absurd (cc)
fault_by-raises (drains i x) e h = absurd (cc)
fault_by-raises (raises n f) e h = let q : f ≡ e = cc in (n, ap (raises n) q)
fault_by-raises spends e h = absurd (cc)

some_goal : (ps : List Part) → AreGroups ps → (ps ≡ [] → ⊥) → plain_goals ps ≡ none → ⊥
some_goal [] a h e = h refl
some_goal (call t ∷ ps) a h e = cc
some_goal (group cs none ∷ ps) a h e = a
some_goal (group cs (more t ts) ∷ ps) a h e = cc

goals_left-plain_by : (f : Option Fault) (G T : Trees) (n k : ℕ) → goals_left (plain_by f G T n k) ≡ G
goals_left-plain_by f (more g G) T n k = refl
goals_left-plain_by None none T n k = refl
goals_left-plain_by (Some e) none T n k = refl

-- by a charge above the rest, or by the leftmost slot without an answer
spent_unfailed : (r c : ℕ) (w : Slots) (v : Verdict) → Unfailed r c w v → v ≡ spends → (r < c) ⊎ (leftmost w ≡ Some Spent)
spent_unfailed r c w (joins n) (all_joins full le) h = absurd (cc)
spent_unfailed r c w (raises n e) (one_raises f q le) h = absurd (cc)
spent_unfailed r c w spends (edge_above q) h = inl q
spent_unfailed r c w spends (one_spent q) h = inr q
spent_unfailed r c w wait one_waits h = absurd (cc)
spent_unfailed r c w (breaks n) x h = elim x [ ]
spent_unfailed r c w (drains n m) x h = elim x [ ]

spent_first : (loud : Tree → Bool) (r c : ℕ) (w : Slots) (v : Verdict) → FirstMeans loud r c w v → v ≡ spends → (r < c) ⊎ (leftmost w ≡ Some Spent)
spent_first loud r c w (breaks n) (first_breaks q le) h = absurd (cc)
spent_first loud r c w (drains n x) (first_drains j q d le) h = absurd (cc)
spent_first loud r c w spends (first_above q) h = inl q
spent_first loud r c w v (first_else q) h = spent_unfailed r c w v q h

spent_later : (r c : ℕ) (w : Slots) (v : Verdict) → LaterMeans r c w v → v ≡ spends → (r < c) ⊎ (leftmost w ≡ Some Spent)
spent_later r c w (breaks n) (later_breaks q le) h = absurd (cc)
spent_later r c w spends (later_above q) h = inl q
spent_later r c w v (later_else q) h = spent_unfailed r c w v q h

raised_unfailed : (r c : ℕ) (w : Slots) (v : Verdict) (n : ℕ) (e : Fault) → Unfailed r c w v → v ≡ raises n e → leftmost w ≡ Some (Raised e)
raised_unfailed r c w (joins m) n e (all_joins full le) h = absurd (cc)
raised_unfailed r c w (raises m f) n e (one_raises f' q le) h = let i : f ≡ e = cc in q ∙ ap (λ x. Some (Raised x)) i
raised_unfailed r c w spends n e (edge_above q) h = absurd (cc)
raised_unfailed r c w spends n e (one_spent q) h = absurd (cc)
raised_unfailed r c w wait n e one_waits h = absurd (cc)
raised_unfailed r c w (breaks m) n e x h = elim x [ ]
raised_unfailed r c w (drains m o) n e x h = elim x [ ]

raised_first : (loud : Tree → Bool) (r c : ℕ) (w : Slots) (v : Verdict) (n : ℕ) (e : Fault) → FirstMeans loud r c w v → v ≡ raises n e → leftmost w ≡ Some (Raised e)
raised_first loud r c w (breaks m) n e (first_breaks q le) h = absurd (cc)
raised_first loud r c w (drains m x) n e (first_drains j q d le) h = absurd (cc)
raised_first loud r c w spends n e (first_above q) h = absurd (cc)
raised_first loud r c w v n e (first_else q) h = raised_unfailed r c w v n e q h

raised_later : (r c : ℕ) (w : Slots) (v : Verdict) (n : ℕ) (e : Fault) → LaterMeans r c w v → v ≡ raises n e → leftmost w ≡ Some (Raised e)
raised_later r c w (breaks m) n e (later_breaks q le) h = absurd (cc)
raised_later r c w spends n e (later_above q) h = absurd (cc)
raised_later r c w v n e (later_else q) h = raised_unfailed r c w v n e q h

pub IsSpent-has_spent : (loud : Tree → Bool) (b : ℕ) (t : Task) → has_spent loud t ≡ true → IsGiven b t → Fine loud t → IsSpent b (erased t)
IsSpent-has_spent loud b (task r c exhausted) h k f = absurd (false≢true h)
IsSpent-has_spent loud b (task r c (alternative (state s) l)) h k f =
    let q = and_parts (has_goals s) (not (nat_lt 0 r)) h in
    (omega (arith, ltb-false 0 r (not-true (nat_lt 0 r) q.1)), λ e. some_goal s.goals f.0 (some_left s q.0) (sym (goals_left-plain_by s.fault (plain_goals s.goals) s.tuple s.next s.steps) ∙ e))
IsSpent-has_spent loud b (task r c (alternative (frame s First w) l)) h k f =
    elim (spent_first loud r (left_edge r 0 w) w (verdict loud First r w) (first_means loud r (left_edge r 0 w) w) (is_over-spends (verdict loud First r w) h)) [
      | inl q ↦ inl (omega (arith, left_edge-FineOpen loud 0 r w f.0.1, q))
      | inr q ↦ elim (IsSlotSpent-FineOpen loud 0 r w f.0.1 q) [ inl x ↦ inr (inl (r, k, x)) | inr x ↦ inr (inr (r - 0, omega (arith, k), x.1)) ]
    ]
IsSpent-has_spent loud b (task r c (alternative (frame s Later w) l)) h k f =
    elim (spent_later r (left_edge r 0 w) w (verdict loud Later r w) (later_means r (left_edge r 0 w) w) (is_over-spends (verdict loud Later r w) h)) [
      | inl q ↦ inl (omega (arith, left_edge-FineLater loud 0 r w f.0.1, q))
      | inr q ↦ inr (r, k, IsSlotSpent-FineLater loud r w f.0.1 q)
    ]
IsSpent-has_spent loud b (task r c (alternative (frame s Closed w) l)) h k f = absurd (false≢true h)

fault_state : (s : State) (e : Fault) → fault_at s ≡ Some e → plain_of s ≡ plain.faulted e s.steps
fault_state s e h = go s.goals s.fault h
  where
    go : (ps : List Part) (f : Option Fault) → by_goals ps f None ≡ Some e → plain_by f (plain_goals ps) s.tuple s.next s.steps ≡ plain.faulted e s.steps
    go [] None h = absurd (cc)
    go [] (Some x) h = let q : x ≡ e = cc in ap (λ y. plain.faulted y s.steps) q
    go (g ∷ gs) f h = absurd (cc)

pub IsRaised-met : (loud : Tree → Bool) (t : Task) (e : Fault) → met loud t ≡ Some e → Fine loud t → IsRaised e (erased t)
IsRaised-met loud (task r c exhausted) e h f = absurd (cc)
IsRaised-met loud (task r c (alternative (state s) l)) e h f = (s.steps, fault_state s e h)
IsRaised-met loud (task r c (alternative (frame s First w) l)) e h f =
    let q = fault_by-raises (verdict loud First r w) e h in
    IsSlotRaised-FineOpen loud (past 0) r w e f.0.1 (raised_first loud r (left_edge r 0 w) w (verdict loud First r w) q.0 e (first_means loud r (left_edge r 0 w) w) q.1)
IsRaised-met loud (task r c (alternative (frame s Later w) l)) e h f =
    let q = fault_by-raises (verdict loud Later r w) e h in
    IsSlotRaised-FineLater loud r w e f.0.1 (raised_later r (left_edge r 0 w) w (verdict loud Later r w) q.0 e (later_means r (left_edge r 0 w) w) q.1)
IsRaised-met loud (task r c (alternative (frame s Closed w) l)) e h f = absurd (cc)

-- ---- answers

pub done_state : (s : State) → is_done s ≡ true → plain_of s ≡ plain.state none s.tuple s.next s.steps
done_state s h = go s.goals s.fault h
  where
    go : (ps : List Part) (f : Option Fault) → by_goals ps (is_none f) false ≡ true → plain_by f (plain_goals ps) s.tuple s.next s.steps ≡ plain.state none s.tuple s.next s.steps
    go [] None h = refl
    go [] (Some e) h = absurd (false≢true h)
    go (g ∷ gs) f h = absurd (false≢true h)

-- the task before an answer
pub record Answers (loud : Tree → Bool) (t : Task) (a : Answer) (u : Task) : Type 0 where
  pub rest : ℕ
  pub next : laws.Alternatives
  pub before : erased t ≡ laws.task (spent_by u) (laws.plain (plain_answer a) next)
  pub behind : erased u ≡ laws.task (spent_by u) next
  pub fine : Fine loud t → FineHeldTask loud u
  pub same : (b : ℕ) → IsGiven b t → IsGiven b u

pub Answers-answer : (loud : Tree → Bool) (t : Task) (y : Answer × Task) → answer t ≡ Some y → Answers loud t y.0 y.1
Answers-answer loud (task r c exhausted) y h = absurd (cc)
Answers-answer loud (task r c (alternative (frame s rd w) l)) y h = absurd (cc)
Answers-answer loud (task r c (alternative (state s) l)) y h =
    let q = Some-only_if (is_done s) (record { tuple = s.tuple; next = s.next; steps = s.steps }, task r c l) y h in
    subst (λ v. Answers loud (task r c (alternative (state s) l)) v.0 v.1) q.1 (record {
      rest = r;
      next = erased_alternatives l;
      before = ap (λ v. laws.task c (laws.plain v (erased_alternatives l))) (done_state s q.0);
      behind = refl;
      fine = λ f. f.1;
      same = λ b e. e;
    })

-- ---- slots

Stands-running : (r : ℕ) (x : Busy) (t u : Task) → is_running x ≡ true → ((b : ℕ) → IsGiven b t → IsGiven b u) → Stands r x t → Stands r x u
Stands-running r Running t u e h s = h r s
Stands-running r Stopping t u e h s = h r s
Stands-running r Failed t u e h s = absurd (false≢true e)
Stands-running r Spent t u e h s = absurd (false≢true e)
Stands-running r Stopped t u e h s = absurd (false≢true e)
Stands-running r (Raised f) t u e h s = absurd (false≢true e)

IsGiven-running : (r : ℕ) (x : Busy) (t : Task) → is_running x ≡ true → Stands r x t → IsGiven r t
IsGiven-running r Running t e s = s
IsGiven-running r Stopping t e s = s
IsGiven-running r Failed t e s = absurd (false≢true e)
IsGiven-running r Spent t e s = absurd (false≢true e)
IsGiven-running r Stopped t e s = absurd (false≢true e)
IsGiven-running r (Raised f) t e s = absurd (false≢true e)

-- a drained slot whose task or standing changes
Drains-changed : (z : Where) (r : ℕ) (x y : Busy) (t u : Task) (i e : ℕ) → ((n : ℕ) → Stands n x t → Stands n y u) → Drains z r x t i e → Drains z r y u i e
Drains-changed (past n) r x y t u i e h d = (d.0, h (i + (r - (n + e))) d.1)
Drains-changed beyond r x y t u i e h d = (d.0, h d.0 d.1)
Drains-changed undrained r x y t u i e h d = absurd d

pub Fine-held : (loud : Tree → Bool) (t : Task) → FineHeldTask loud t → Fine loud t
Fine-held loud (task r c l) h = FineFirst-FineBehind loud r l h

-- of an event at a slot, how far the goal has come after it
recorded_as : (k : Bool) (o : Option Progress) (y : Recorded) → recorded k o ≡ Some y → o ≡ Some y.1
recorded_as k o y h = let q = Some-mapped (λ x. (k, x)) o y h in q.1.0 ∙ ap (λ v. Some v.1) q.1.1

module _ (p : Rules) (good : IsProgram p.program) (heeds : Heeds p.loud p.program) where
  abbrev A : Ways
  A = plain_ways p.program

  -- what an event of a slot does, in a first round or right of a redone one, and in a later round
  record Turns (z : Where) (r b : ℕ) (g : Tree) (x y : Progress) (W : laws.Slots) : Type 0 where
    steps : Star (Turn A b) (erased_slot g x W) (erased_slot g y W)
    fine : FineBegun p.loud z r g y
    behind : (w : Slots) → FineOpen p.loud (next_to z x) r w → FineOpen p.loud (next_to z y) r w

  record Spins (r b : ℕ) (g : Tree) (x y : Progress) (w : Slots) : Type 0 where
    steps : Star (Spin A b) (erased_slot g x (erased_slots w)) (erased_slot g y (erased_slots w))
    fine : (k : Bool) → FineLater p.loud r (slot g k y w)

  module _ (r b : ℕ) (g : Tree) where
    same_behind : (z : Where) (x y : Progress) → next_to z x ≡ next_to z y → (w : Slots) → FineOpen p.loud (next_to z x) r w → FineOpen p.loud (next_to z y) r w
    same_behind z x y e w h = subst (λ v. FineOpen p.loud v r w) e h

    next_busy : (z : Where) (x y : Busy) (t u : Task) → next_to z (busy x t) ≡ next_to z (busy y u)
    next_busy (past n) x y t u = refl
    next_busy beyond x y t u = refl
    next_busy undrained x y t u = refl

    next_drained : (z : Where) (m l : List Answer) (x y : Busy) (t u : Task) (i e : ℕ) → next_to z (drained m x t i e) ≡ next_to z (drained l y u i e)
    next_drained (past n) m l x y t u i e = refl
    next_drained beyond m l x y t u i e = refl
    next_drained undrained m l x y t u i e = refl

    next_idle_busy : (z : Where) (i : Idle) (x : Busy) (t : Task) → next_to z (idle i) ≡ next_to z (busy x t)
    next_idle_busy (past n) i x t = refl
    next_idle_busy beyond i x t = refl
    next_idle_busy undrained i x t = refl

    next_stored_idle : (z : Where) (m : List Answer) (i : Idle) → next_to z (stored m) ≡ next_to z (idle i)
    next_stored_idle (past n) m i = refl
    next_stored_idle beyond m i = refl
    next_stored_idle undrained m i = refl

    held_behind : (z : Where) (x : Busy) (t : Task) (m : List Answer) (a : Answer) (u : Task) (c : ℕ) (w : Slots) → FineOpen p.loud (next_to z (busy x t)) r w → FineOpen p.loud (next_to z (held m a u c)) r w
    held_behind (past n) x t m a u c w h = FineOpen-anywhere p.loud (past (n + c)) r w h
    held_behind beyond x t m a u c w h = h
    held_behind undrained x t m a u c w h = h

    turns_along : (v : Where) (x y z : Progress) (W : laws.Slots) → y ≡ z → Turns v r b g x y W → Turns v r b g x z W
    turns_along v x y z W e m = subst (λ u. Turns v r b g x u W) e m

    spins_along : (x y z : Progress) (w : Slots) → y ≡ z → Spins r b g x y w → Spins r b g x z w
    spins_along x y z w e m = subst (λ v. Spins r b g x v w) e m

    within : (v : Where) (x : Busy) (t u : Task) (W : laws.Slots) → is_running x ≡ true → FineBegun p.loud v r g (busy x t) → Made p good heeds t u → Turns v r b g (busy x t) (busy x u) W
    within v x t u W e f m = record {
      steps = Star-map (Step A) (Turn A b) (λ o. laws.busy g o W) (λ o o' s. events.inside s) (erased t) m.steps;
      fine = (Stands-running r x t u e m.given f.0, m.fine);
      behind = same_behind v (busy x t) (busy x u) (next_busy v x x t u);
    }

    within_drained : (v : Where) (m : List Answer) (x : Busy) (t u : Task) (i n : ℕ) (W : laws.Slots) → is_running x ≡ true → FineBegun p.loud v r g (drained m x t i n) → Made p good heeds t u
        → Turns v r b g (drained m x t i n) (drained m x u i n) W
    within_drained v m x t u i n W e f d = record {
      steps = Star-map (Step A) (Turn A b) (λ o. laws.drained g (map plain_answer m) o i n W) (λ o o' s. events.inside_drained s) (erased t) d.steps;
      fine = (Drains-changed v r x x t u i n (λ j s. Stands-running j x t u e d.given s) f.0, d.fine, f.2);
      behind = same_behind v (drained m x t i n) (drained m x u i n) (next_drained v m m x x t u i n);
    }

    within_redone : (m : List Answer) (x : Busy) (t u : Task) (i : ℕ) (k : Bool) (w : Slots) → is_running x ≡ true → FineLater p.loud r (slot g k (redone m x t i) w) → Made p good heeds t u
        → Spins r b g (redone m x t i) (redone m x u i) w
    within_redone m x t u i k w e f d = record {
      steps = Star-map (Step A) (Spin A b) (λ v. laws.redone g (map plain_answer m) v i (erased_slots w)) (λ v v' s. events.inside_redone s) (erased t) d.steps;
      fine = λ o. (Stands-running (i + r) x t u e d.given f.0, d.fine, f.2);
    }

    own_turns : (k : Kind) (v : Where) (x y : Progress) (W : laws.Slots) → own_slot p k x ≡ Some y → Strong A b (erased_slot g x W) → FineBegun p.loud v r g x → Turns v r b g x y W
    own_turns k v (idle i) y W h st f = absurd (cc)
    own_turns k v (stored m) y W h st f = absurd (cc)
    own_turns k v (held m a t c) y W h st f = absurd (cc)
    own_turns k v (redone m x t i) y W h st f = absurd f
    own_turns k v (again m a t c) y W h st f = absurd f
    own_turns k v (busy x t) y W h st f =
        let q = Some-if (is_running x) (mapped (busy x) (own p k t)) y h in
        let u = Some-mapped (busy x) (own p k t) y q.1 in
        turns_along v (busy x t) (busy x u.0) y W u.1.1 (within v x t u.0 W q.0 f (Made-own p good heeds k t u.0 g b u.1.0 st.1 f.1))
    own_turns k v (drained m x t i n) y W h st f =
        let q = Some-if (is_running x) (mapped (λ u. drained m x u i n) (own p k t)) y h in
        let u = Some-mapped (λ u. drained m x u i n) (own p k t) y q.1 in
        turns_along v (drained m x t i n) (drained m x u.0 i n) y W u.1.1 (within_drained v m x t u.0 i n W q.0 f (Made-own p good heeds k t u.0 g b u.1.0 st.1 f.1))

    own_spins : (k : Kind) (m : List Answer) (x : Busy) (t : Task) (i : ℕ) (y : Progress) (o : Bool) (w : Slots) → own_slot p k (redone m x t i) ≡ Some y → TaskInvariant A g b (erased t)
        → FineLater p.loud r (slot g o (redone m x t i) w) → Spins r b g (redone m x t i) y w
    own_spins k m x t i y o w h ti f =
        let q = Some-if (is_running x) (mapped (λ u. redone m x u i) (own p k t)) y h in
        let u = Some-mapped (λ u. redone m x u i) (own p k t) y q.1 in
        spins_along (redone m x t i) (redone m x u.0 i) y w u.1.1 (within_redone m x t u.0 i o w q.0 f (Made-own p good heeds k t u.0 g b u.1.0 ti f.1))

    start_turns : (v : Where) (x y : Progress) (W : laws.Slots) → start_slot r b g x ≡ Some y → Turns v r b g x y W
    start_turns v (idle i) y W h =
        let q = Some-only_if (is_startable i) (started r b g) y h in
        turns_along v (idle i) (started r b g) y W q.1 (record {
          steps = onward here events.start;
          fine = (omega arith, (tt, tt));
          behind = same_behind v (idle i) (started r b g) (next_idle_busy v i Running (task r 0 (alternative (state (plain.as_state (alone g b))) exhausted)));
        })
    start_turns v (stored m) y W h = absurd (cc)
    start_turns v (busy x t) y W h = absurd (cc)
    start_turns v (held m a t c) y W h = absurd (cc)
    start_turns v (redone m x t i) y W h = absurd (cc)
    start_turns v (again m a t c) y W h = absurd (cc)
    start_turns v (drained m x t i n) y W h = absurd (cc)

    answer_turns : (v : Where) (x y : Progress) (W : laws.Slots) → answer_slot x ≡ Some y → FineBegun p.loud v r g x → Turns v r b g x y W
    answer_turns v (idle i) y W h f = absurd (cc)
    answer_turns v (stored m) y W h f = absurd (cc)
    answer_turns v (held m a t c) y W h f = absurd (cc)
    answer_turns v (redone m x t i) y W h f = absurd f
    answer_turns v (again m a t c) y W h f = absurd f
    answer_turns v (busy x t) y W h f =
        let q = Some-if (is_running x) (mapped (λ y. held [] y.0 y.1 (spent_by y.1)) (answer t)) y h in
        let u = Some-mapped (λ y. held [] y.0 y.1 (spent_by y.1)) (answer t) y q.1 in
        let d = Answers-answer p.loud t u.0 u.1.0 in
        turns_along v (busy x t) (held [] u.0.0 u.0.1 (spent_by u.0.1)) y W u.1.1 (record {
          steps =
              Star-one (Turn A b) (laws.busy g (erased t) W) (laws.held g (plain_answer u.0.0 ∷ []) (plain_answer u.0.0) (erased u.0.1) (spent_by u.0.1) W)
              (subst (λ v. Turn A b (laws.busy g v W) (laws.held g (plain_answer u.0.0 ∷ []) (plain_answer u.0.0) (erased u.0.1) (spent_by u.0.1) W)) (sym d.before)
              (subst (λ v. Turn A b (laws.busy g (laws.task (spent_by u.0.1) (laws.plain (plain_answer u.0.0) d.next)) W) (laws.held g (plain_answer u.0.0 ∷ []) (plain_answer u.0.0) v (spent_by u.0.1) W)) (sym d.behind)
              events.answers));
          fine = d.fine f.1;
          behind = held_behind v x t [] u.0.0 u.0.1 (spent_by u.0.1);
        })
    answer_turns v (drained m x t i n) y W h f =
        let q = Some-if (is_running x) (mapped (λ y. drained (m ++ y.0 ∷ []) x y.1 i n) (answer t)) y h in
        let u = Some-mapped (λ y. drained (m ++ y.0 ∷ []) x y.1 i n) (answer t) y q.1 in
        let d = Answers-answer p.loud t u.0 u.1.0 in
        let M : List Plain = map plain_answer m in
        let a : Plain = plain_answer u.0.0 in
        turns_along v (drained m x t i n) (drained (m ++ u.0.0 ∷ []) x u.0.1 i n) y W u.1.1 (record {
          steps =
              Star-one (Turn A b) (laws.drained g M (erased t) i n W) (laws.drained g (map plain_answer (m ++ u.0.0 ∷ [])) (erased u.0.1) i n W)
              (subst (λ v. Turn A b (laws.drained g M v i n W) (laws.drained g (map plain_answer (m ++ u.0.0 ∷ [])) (erased u.0.1) i n W)) (sym d.before)
              (subst (λ v. Turn A b (laws.drained g M (laws.task (spent_by u.0.1) (laws.plain a d.next)) i n W) (laws.drained g (map plain_answer (m ++ u.0.0 ∷ [])) v i n W)) (sym d.behind)
              (subst (λ l. Turn A b (laws.drained g M (laws.task (spent_by u.0.1) (laws.plain a d.next)) i n W) (laws.drained g l (laws.task (spent_by u.0.1) d.next) i n W)) (sym (map-append plain_answer m (u.0.0 ∷ [])))
              events.throws)));
          fine = (Drains-changed v r x x t u.0.1 i n (λ j s. Stands-running j x t u.0.1 q.0 d.same s) f.0, Fine-held p.loud u.0.1 (d.fine f.1), f.2);
          behind = same_behind v (drained m x t i n) (drained (m ++ u.0.0 ∷ []) x u.0.1 i n) (next_drained v m (m ++ u.0.0 ∷ []) x x t u.0.1 i n);
        })

    answer_spins : (m : List Answer) (x : Busy) (t : Task) (i : ℕ) (y : Progress) (k : Bool) (w : Slots) → answer_slot (redone m x t i) ≡ Some y → FineLater p.loud r (slot g k (redone m x t i) w)
        → FineOpen p.loud undrained r w → Spins r b g (redone m x t i) y w
    answer_spins m x t i y k w h f o =
        let q = Some-if (is_running x) (mapped (λ y. again m y.0 y.1 (spent_by y.1 - i)) (answer t)) y h in
        let u = Some-mapped (λ y. again m y.0 y.1 (spent_by y.1 - i)) (answer t) y q.1 in
        let d = Answers-answer p.loud t u.0 u.1.0 in
        let M : List Plain = map plain_answer m in
        let W : laws.Slots = erased_slots w in
        let a : Plain = plain_answer u.0.0 in
        spins_along (redone m x t i) (again m u.0.0 u.0.1 (spent_by u.0.1 - i)) y w u.1.1 (record {
          steps =
              Star-one (Spin A b) (laws.redone g M (erased t) i W) (laws.again g (M ++ a ∷ []) a (erased u.0.1) (spent_by u.0.1 - i) W)
              (subst (λ v. Spin A b (laws.redone g M v i W) (laws.again g (M ++ a ∷ []) a (erased u.0.1) (spent_by u.0.1 - i) W)) (sym d.before)
              (subst (λ v. Spin A b (laws.redone g M (laws.task (spent_by u.0.1) (laws.plain a d.next)) i W) (laws.again g (M ++ a ∷ []) a v (spent_by u.0.1 - i) W)) (sym d.behind)
              events.answers_redone));
          fine = λ c. (d.fine f.1, o);
        })

    -- a slot that only stands otherwise
    Restands : (Busy → Task → Option Busy) → Type 0
    Restands c = (x z : Busy) (t : Task) (n : ℕ) → c x t ≡ Some z → Stands n x t → Fine p.loud t → Stands n z t

    stand_turns : (c : Busy → Task → Option Busy) → Restands c → (v : Where) (x y : Progress) (W : laws.Slots) → stand c x ≡ Some y → FineBegun p.loud v r g x → Turns v r b g x y W
    unfolding Restands
    stand_turns c d v (idle i) y W h f = absurd (cc)
    stand_turns c d v (stored m) y W h f = absurd (cc)
    stand_turns c d v (held m a t n) y W h f = absurd (cc)
    stand_turns c d v (redone m x t i) y W h f = absurd f
    stand_turns c d v (again m a t n) y W h f = absurd f
    stand_turns c d v (busy x t) y W h f =
        let q = Some-mapped (λ z. busy z t) (c x t) y h in
        turns_along v (busy x t) (busy q.0 t) y W q.1.1 (record { steps = here; fine = (d x q.0 t r q.1.0 f.0 f.1, f.1); behind = same_behind v (busy x t) (busy q.0 t) (next_busy v x q.0 t t) })
    stand_turns c d v (drained m x t i n) y W h f =
        let q = Some-mapped (λ z. drained m z t i n) (c x t) y h in
        turns_along v (drained m x t i n) (drained m q.0 t i n) y W q.1.1 (record {
          steps = here;
          fine = (Drains-changed v r x q.0 t t i n (λ j s. d x q.0 t j q.1.0 s f.1) f.0, f.1, f.2);
          behind = same_behind v (drained m x t i n) (drained m q.0 t i n) (next_drained v m m x q.0 t t i n);
        })

    stand_spins : (c : Busy → Task → Option Busy) → Restands c → (m : List Answer) (x : Busy) (t : Task) (i : ℕ) (y : Progress) (k : Bool) (w : Slots) → mapped (λ z. redone m z t i) (c x t) ≡ Some y
        → FineLater p.loud r (slot g k (redone m x t i) w) → Spins r b g (redone m x t i) y w
    unfolding Restands
    stand_spins c d m x t i y k w h f =
        let q = Some-mapped (λ z. redone m z t i) (c x t) y h in
        spins_along (redone m x t i) (redone m q.0 t i) y w q.1.1 (record { steps = here; fine = λ o. (d x q.0 t (i + r) q.1.0 f.0 f.1, f.1, f.2) })

    fails : Restands failing
    unfolding Restands
    fails x z t n h s f =
        let q = Some-only_if (is_running x && is_exhausted t) Failed z h in subst (λ y. Stands n y t) q.1 (and_parts (is_running x) (is_exhausted t) q.0).1

    spent : Restands (spending p.loud)
    unfolding Restands
    spent x z t n h s f =
        let q = Some-only_if (is_running x && has_spent p.loud t) Spent z h in
        let e = and_parts (is_running x) (has_spent p.loud t) q.0 in
        subst (λ y. Stands n y t) q.1 (IsSpent-has_spent p.loud n t e.1 (IsGiven-running n x t e.0 s) f)

    raises_so : Restands (raising p.loud)
    unfolding Restands
    raises_so x z t n h s f =
        let q = Some-if (is_running x) (mapped Raised (met p.loud t)) z h in
        let e = Some-mapped Raised (met p.loud t) z q.1 in
        subst (λ y. Stands n y t) e.1.1 (IsRaised-met p.loud t e.0 e.1.0 f)

    asks : Restands asked
    unfolding Restands
    asks Running z t n h s f = let e : Stopping ≡ z = cc in subst (λ y. Stands n y t) e s
    asks Stopping z t n h s f = absurd (cc)
    asks Failed z t n h s f = absurd (cc)
    asks Spent z t n h s f = absurd (cc)
    asks Stopped z t n h s f = absurd (cc)
    asks (Raised e) z t n h s f = absurd (cc)

    stops : Restands stopping
    unfolding Restands
    stops Running z t n h s f = absurd (cc)
    stops Stopping z t n h s f = let e : Stopped ≡ z = cc in subst (λ y. Stands n y t) e tt
    stops Failed z t n h s f = absurd (cc)
    stops Spent z t n h s f = absurd (cc)
    stops Stopped z t n h s f = absurd (cc)
    stops (Raised e) z t n h s f = absurd (cc)

    next_busy_idle : (z : Where) (i : Idle) (x : Busy) (t : Task) → next_to z (busy x t) ≡ next_to z (idle i)
    next_busy_idle z i x t = sym (next_idle_busy z i x t)

    stopped_turns : (v : Where) (x y : Progress) (W : laws.Slots) → stopped_slot x ≡ Some y → FineBegun p.loud v r g x → Turns v r b g x y W
    stopped_turns v (idle i) y W h f = absurd (cc)
    stopped_turns v (stored m) y W h f = absurd (cc)
    stopped_turns v (busy Running t) y W h f =
        let e : idle GivenBack ≡ y = cc in
        turns_along v (busy Running t) (idle GivenBack) y W e (record { steps = onward here events.given_back; fine = tt; behind = same_behind v (busy Running t) (idle GivenBack) (next_busy_idle v GivenBack Running t) })
    stopped_turns v (busy Stopping t) y W h f =
        let e : busy Stopped t ≡ y = cc in
        turns_along v (busy Stopping t) (busy Stopped t) y W e (record { steps = here; fine = (tt, f.1); behind = same_behind v (busy Stopping t) (busy Stopped t) (next_busy v Stopping Stopped t t) })
    stopped_turns v (busy Failed t) y W h f = absurd (cc)
    stopped_turns v (busy Spent t) y W h f = absurd (cc)
    stopped_turns v (busy Stopped t) y W h f = absurd (cc)
    stopped_turns v (busy (Raised e) t) y W h f = absurd (cc)
    stopped_turns v (held m a t c) y W h f = absurd (cc)
    stopped_turns v (redone m x t i) y W h f = absurd f
    stopped_turns v (again m a t c) y W h f = absurd f
    stopped_turns v (drained m x t i n) y W h f = stand_turns stopping stops v (drained m x t i n) y W h f

    -- the record of a slot's answers is given up
    forget_turns : (v : Where) (x : Progress) (W : laws.Slots) → FineBegun p.loud v r g x → Turns v r b g x (forgotten x) W
    forget_turns v (idle i) W f = record { steps = here; fine = f; behind = λ w h. h }
    forget_turns v (stored m) W f = record { steps = onward here events.forgets; fine = tt; behind = same_behind v (stored m) (idle Waiting) (next_stored_idle v m Waiting) }
    forget_turns v (busy x t) W f = record { steps = here; fine = f; behind = λ w h. h }
    forget_turns v (held m a t c) W f = record { steps = here; fine = f; behind = λ w h. h }
    forget_turns v (redone m x t i) W f = absurd f
    forget_turns v (again m a t c) W f = absurd f
    forget_turns v (drained m x t i n) W f = record { steps = here; fine = f; behind = λ w h. h }

    at_turns : (k : Kind) (v : Where) (o : Bool) (x : Progress) (y : Recorded) (W : laws.Slots) → at_slot p k r b g o x ≡ Some y → Strong A b (erased_slot g x W) → FineBegun p.loud v r g x → Turns v r b g x y.1 W
    at_turns kinds.Infer v o x y W h st f = own_turns kinds.Infer v x y.1 W (recorded_as o (own_slot p kinds.Infer x) y h) st f
    at_turns kinds.Fork v o x y W h st f = own_turns kinds.Fork v x y.1 W (recorded_as o (own_slot p kinds.Fork x) y h) st f
    at_turns kinds.Start v o x y W h st f = start_turns v x y.1 W (recorded_as o (start_slot r b g x) y h)
    at_turns kinds.Answer v o x y W h st f = answer_turns v x y.1 W (recorded_as o (answer_slot x) y h) f
    at_turns kinds.Fail v o x y W h st f = stand_turns failing fails v x y.1 W (recorded_as o (stand failing x) y h) f
    at_turns kinds.Spend v o x y W h st f = stand_turns (spending p.loud) spent v x y.1 W (recorded_as o (stand (spending p.loud) x) y h) f
    at_turns kinds.Stop v o x y W h st f = stand_turns asked asks v x y.1 W (recorded_as o (stand asked x) y h) f
    at_turns kinds.Stopped v o x y W h st f = stopped_turns v x y.1 W (recorded_as o (stopped_slot x) y h) f
    at_turns kinds.Join v o x y W h st f = own_turns kinds.Join v x y.1 W (recorded_as o (own_slot p kinds.Join x) y h) st f
    at_turns kinds.Break v o x y W h st f = own_turns kinds.Break v x y.1 W (recorded_as o (own_slot p kinds.Break x) y h) st f
    at_turns kinds.Redo v o x y W h st f = own_turns kinds.Redo v x y.1 W (recorded_as o (own_slot p kinds.Redo x) y h) st f
    at_turns kinds.Restart v o x y W h st f = own_turns kinds.Restart v x y.1 W (recorded_as o (own_slot p kinds.Restart x) y h) st f
    at_turns kinds.Raise v o x y W h st f = stand_turns (raising p.loud) raises_so v x y.1 W (recorded_as o (stand (raising p.loud) x) y h) f
    at_turns kinds.Drain v o x y W h st f = own_turns kinds.Drain v x y.1 W (recorded_as o (own_slot p kinds.Drain x) y h) st f
    at_turns kinds.Forget v o x y W h st f = let e : forgotten x ≡ y.1 = cc in turns_along v x (forgotten x) y.1 W e (forget_turns v x W f)
    at_turns kinds.Replay v o x y W h st f = own_turns kinds.Replay v x y.1 W (recorded_as o (own_slot p kinds.Replay x) y h) st f

    at_spins : (k : Kind) (o : Bool) (m : List Answer) (x : Busy) (t : Task) (i : ℕ) (y : Recorded) (w : Slots) → at_slot p k r b g o (redone m x t i) ≡ Some y → TaskInvariant A g b (erased t)
        → FineLater p.loud r (slot g o (redone m x t i) w) → FineOpen p.loud undrained r w → Spins r b g (redone m x t i) y.1 w
    at_spins kinds.Infer o m x t i y w h ti f n = own_spins kinds.Infer m x t i y.1 o w (recorded_as o (own_slot p kinds.Infer (redone m x t i)) y h) ti f
    at_spins kinds.Fork o m x t i y w h ti f n = own_spins kinds.Fork m x t i y.1 o w (recorded_as o (own_slot p kinds.Fork (redone m x t i)) y h) ti f
    at_spins kinds.Start o m x t i y w h ti f n = absurd (cc)
    at_spins kinds.Answer o m x t i y w h ti f n = answer_spins m x t i y.1 o w (recorded_as o (answer_slot (redone m x t i)) y h) f n
    at_spins kinds.Fail o m x t i y w h ti f n = stand_spins failing fails m x t i y.1 o w (recorded_as o (stand failing (redone m x t i)) y h) f
    at_spins kinds.Spend o m x t i y w h ti f n = stand_spins (spending p.loud) spent m x t i y.1 o w (recorded_as o (stand (spending p.loud) (redone m x t i)) y h) f
    at_spins kinds.Stop o m x t i y w h ti f n = stand_spins asked asks m x t i y.1 o w (recorded_as o (stand asked (redone m x t i)) y h) f
    at_spins kinds.Stopped o m x t i y w h ti f n = stand_spins stopping stops m x t i y.1 o w (recorded_as o (stopped_slot (redone m x t i)) y h) f
    at_spins kinds.Join o m x t i y w h ti f n = own_spins kinds.Join m x t i y.1 o w (recorded_as o (own_slot p kinds.Join (redone m x t i)) y h) ti f
    at_spins kinds.Break o m x t i y w h ti f n = own_spins kinds.Break m x t i y.1 o w (recorded_as o (own_slot p kinds.Break (redone m x t i)) y h) ti f
    at_spins kinds.Redo o m x t i y w h ti f n = own_spins kinds.Redo m x t i y.1 o w (recorded_as o (own_slot p kinds.Redo (redone m x t i)) y h) ti f
    at_spins kinds.Restart o m x t i y w h ti f n = own_spins kinds.Restart m x t i y.1 o w (recorded_as o (own_slot p kinds.Restart (redone m x t i)) y h) ti f
    at_spins kinds.Raise o m x t i y w h ti f n = stand_spins (raising p.loud) raises_so m x t i y.1 o w (recorded_as o (stand (raising p.loud) (redone m x t i)) y h) f
    at_spins kinds.Drain o m x t i y w h ti f n = own_spins kinds.Drain m x t i y.1 o w (recorded_as o (own_slot p kinds.Drain (redone m x t i)) y h) ti f
    at_spins kinds.Forget o m x t i y w h ti f n = let e : redone m x t i ≡ y.1 = cc in spins_along (redone m x t i) (redone m x t i) y.1 w e (record { steps = here; fine = λ c. f })
    at_spins kinds.Replay o m x t i y w h ti f n = own_spins kinds.Replay m x t i y.1 o w (recorded_as o (own_slot p kinds.Replay (redone m x t i)) y h) ti f

    -- of the others only the record can be given up
    at_held : (k : Kind) (o : Bool) (m : List Answer) (a : Answer) (t : Task) (c : ℕ) (y : Recorded) → at_slot p k r b g o (held m a t c) ≡ Some y → held m a t c ≡ y.1
    at_held kinds.Infer o m a t c y h = absurd (cc)
    at_held kinds.Fork o m a t c y h = absurd (cc)
    at_held kinds.Start o m a t c y h = absurd (cc)
    at_held kinds.Answer o m a t c y h = absurd (cc)
    at_held kinds.Fail o m a t c y h = absurd (cc)
    at_held kinds.Spend o m a t c y h = absurd (cc)
    at_held kinds.Stop o m a t c y h = absurd (cc)
    at_held kinds.Stopped o m a t c y h = absurd (cc)
    at_held kinds.Join o m a t c y h = absurd (cc)
    at_held kinds.Break o m a t c y h = absurd (cc)
    at_held kinds.Redo o m a t c y h = absurd (cc)
    at_held kinds.Restart o m a t c y h = absurd (cc)
    at_held kinds.Raise o m a t c y h = absurd (cc)
    at_held kinds.Drain o m a t c y h = absurd (cc)
    at_held kinds.Forget o m a t c y h = cc
    at_held kinds.Replay o m a t c y h = absurd (cc)

    at_again : (k : Kind) (o : Bool) (m : List Answer) (a : Answer) (t : Task) (c : ℕ) (y : Recorded) → at_slot p k r b g o (again m a t c) ≡ Some y → again m a t c ≡ y.1
    at_again kinds.Infer o m a t c y h = absurd (cc)
    at_again kinds.Fork o m a t c y h = absurd (cc)
    at_again kinds.Start o m a t c y h = absurd (cc)
    at_again kinds.Answer o m a t c y h = absurd (cc)
    at_again kinds.Fail o m a t c y h = absurd (cc)
    at_again kinds.Spend o m a t c y h = absurd (cc)
    at_again kinds.Stop o m a t c y h = absurd (cc)
    at_again kinds.Stopped o m a t c y h = absurd (cc)
    at_again kinds.Join o m a t c y h = absurd (cc)
    at_again kinds.Break o m a t c y h = absurd (cc)
    at_again kinds.Redo o m a t c y h = absurd (cc)
    at_again kinds.Restart o m a t c y h = absurd (cc)
    at_again kinds.Raise o m a t c y h = absurd (cc)
    at_again kinds.Drain o m a t c y h = absurd (cc)
    at_again kinds.Forget o m a t c y h = cc
    at_again kinds.Replay o m a t c y h = absurd (cc)

    at_waiting : (k : Kind) (o : Bool) (y : Recorded) → at_slot p k r b g o (idle Waiting) ≡ Some y → idle Waiting ≡ y.1
    at_waiting kinds.Infer o y h = absurd (cc)
    at_waiting kinds.Fork o y h = absurd (cc)
    at_waiting kinds.Start o y h = absurd (cc)
    at_waiting kinds.Answer o y h = absurd (cc)
    at_waiting kinds.Fail o y h = absurd (cc)
    at_waiting kinds.Spend o y h = absurd (cc)
    at_waiting kinds.Stop o y h = absurd (cc)
    at_waiting kinds.Stopped o y h = absurd (cc)
    at_waiting kinds.Join o y h = absurd (cc)
    at_waiting kinds.Break o y h = absurd (cc)
    at_waiting kinds.Redo o y h = absurd (cc)
    at_waiting kinds.Restart o y h = absurd (cc)
    at_waiting kinds.Raise o y h = absurd (cc)
    at_waiting kinds.Drain o y h = absurd (cc)
    at_waiting kinds.Forget o y h = cc
    at_waiting kinds.Replay o y h = absurd (cc)

    at_stored : (k : Kind) (o : Bool) (m : List Answer) (y : Recorded) → at_slot p k r b g o (stored m) ≡ Some y → idle Waiting ≡ y.1
    at_stored kinds.Infer o m y h = absurd (cc)
    at_stored kinds.Fork o m y h = absurd (cc)
    at_stored kinds.Start o m y h = absurd (cc)
    at_stored kinds.Answer o m y h = absurd (cc)
    at_stored kinds.Fail o m y h = absurd (cc)
    at_stored kinds.Spend o m y h = absurd (cc)
    at_stored kinds.Stop o m y h = absurd (cc)
    at_stored kinds.Stopped o m y h = absurd (cc)
    at_stored kinds.Join o m y h = absurd (cc)
    at_stored kinds.Break o m y h = absurd (cc)
    at_stored kinds.Redo o m y h = absurd (cc)
    at_stored kinds.Restart o m y h = absurd (cc)
    at_stored kinds.Raise o m y h = absurd (cc)
    at_stored kinds.Drain o m y h = absurd (cc)
    at_stored kinds.Forget o m y h = cc
    at_stored kinds.Replay o m y h = absurd (cc)

  -- of slots that haven't begun anew only records can be given up
  record Forgotten (w v : Slots) : Type 0 where
    steps : Star Forgets (erased_slots w) (erased_slots v)
    waiting : AreWaiting v

  forgotten_along : (w v u : Slots) → v ≡ u → Forgotten w v → Forgotten w u
  forgotten_along w v u e m = subst (λ x. Forgotten w x) e m

  in_waiting : (k : Kind) (i : ℕ) (path : List ℕ) (r b : ℕ) (w v : Slots) → AreWaiting w → in_slots p k i path r b w ≡ Some v → Forgotten w v
  in_waiting k i path r b no_slot v a h = absurd (cc)
  in_waiting k i path r b (slot g o (idle Ready) w) v a h = absurd a
  in_waiting k i path r b (slot g o (idle GivenBack) w) v a h = absurd a
  in_waiting k i path r b (slot g o (busy x t) w) v a h = absurd a
  in_waiting k i path r b (slot g o (held m x t c) w) v a h = absurd a
  in_waiting k i path r b (slot g o (redone m x t j) w) v a h = absurd a
  in_waiting k i path r b (slot g o (again m x t c) w) v a h = absurd a
  in_waiting k i path r b (slot g o (drained m x t j n) w) v a h = absurd a
  in_waiting k zero path r b (slot g o (idle Waiting) w) v a h = absurd (cc)
  in_waiting k (suc zero) [] r b (slot g o (idle Waiting) w) v a h =
      let q = Some-mapped (λ y. slot g y.0 y.1 w) (at_slot p k r b g o (idle Waiting)) v h in
      let e : slot g q.0.0 (idle Waiting) w ≡ slot g q.0.0 q.0.1 w = ap (λ y. slot g q.0.0 y w) (at_waiting r b g k o q.0 q.1.0) in
      forgotten_along (slot g o (idle Waiting) w) (slot g q.0.0 (idle Waiting) w) v (e ∙ q.1.1) (record { steps = here; waiting = a })
  in_waiting k (suc zero) (j ∷ path) r b (slot g o (idle Waiting) w) v a h = absurd (cc)
  in_waiting k (suc (suc i)) path r b (slot g o (idle Waiting) w) v a h =
      let q = Some-mapped (slot g o (idle Waiting)) (in_slots p k (suc i) path r b w) v h in
      let d = in_waiting k (suc i) path r b w q.0 a q.1.0 in
      forgotten_along (slot g o (idle Waiting) w) (slot g o (idle Waiting) q.0) v q.1.1 (record {
        steps = Star-map Forgets Forgets (laws.fresh g) (λ x y s. forget_past_fresh s) (erased_slots w) d.steps;
        waiting = d.waiting;
      })
  in_waiting k zero path r b (slot g o (stored m) w) v a h = absurd (cc)
  in_waiting k (suc zero) [] r b (slot g o (stored m) w) v a h =
      let q = Some-mapped (λ y. slot g y.0 y.1 w) (at_slot p k r b g o (stored m)) v h in
      let e : slot g q.0.0 (idle Waiting) w ≡ slot g q.0.0 q.0.1 w = ap (λ y. slot g q.0.0 y w) (at_stored r b g k o m q.0 q.1.0) in
      forgotten_along (slot g o (stored m) w) (slot g q.0.0 (idle Waiting) w) v (e ∙ q.1.1) (record { steps = onward here forget_here; waiting = a })
  in_waiting k (suc zero) (j ∷ path) r b (slot g o (stored m) w) v a h = absurd (cc)
  in_waiting k (suc (suc i)) path r b (slot g o (stored m) w) v a h =
      let q = Some-mapped (slot g o (stored m)) (in_slots p k (suc i) path r b w) v h in
      let d = in_waiting k (suc i) path r b w q.0 a q.1.0 in
      forgotten_along (slot g o (stored m) w) (slot g o (stored m) q.0) v q.1.1 (record {
        steps = Star-map Forgets Forgets (laws.stored g (map plain_answer m)) (λ x y s. forget_past_stored s) (erased_slots w) d.steps;
        waiting = d.waiting;
      })

  -- what an event in the slots of a first round does, and in those of a later one
  record Opens (z : Where) (r b : ℕ) (w v : Slots) : Type 0 where
    steps : Star (Turn A b) (erased_slots w) (erased_slots v)
    fine : FineOpen p.loud z r v

  record Laters (r b : ℕ) (w v : Slots) : Type 0 where
    steps : Star (Spin A b) (erased_slots w) (erased_slots v)
    fine : FineLater p.loud r v

  opens_along : (z : Where) (r b : ℕ) (w v u : Slots) → v ≡ u → Opens z r b w v → Opens z r b w u
  opens_along z r b w v u e m = subst (λ x. Opens z r b w x) e m

  laters_along : (r b : ℕ) (w v u : Slots) → v ≡ u → Laters r b w v → Laters r b w u
  laters_along r b w v u e m = subst (λ x. Laters r b w x) e m

  -- past a slot
  opens_past : (z : Where) (r b : ℕ) (g : Tree) (k : Bool) (x : Progress) (w v : Slots) → FineBegun p.loud z r g x → Opens (next_to z x) r b w v → Opens z r b (slot g k x w) (slot g k x v)
  opens_past z r b g k (idle i) w v f o = record { steps = Star-map (Turn A b) (Turn A b) (laws.fresh g) (λ y y' s. events.past_fresh s) (erased_slots w) o.steps; fine = (f, o.fine) }
  opens_past z r b g k (stored m) w v f o = record { steps = Star-map (Turn A b) (Turn A b) (laws.stored g (map plain_answer m)) (λ y y' s. events.past_stored s) (erased_slots w) o.steps; fine = (f, o.fine) }
  opens_past z r b g k (busy x t) w v f o = record { steps = Star-map (Turn A b) (Turn A b) (laws.busy g (erased t)) (λ y y' s. events.past_busy s) (erased_slots w) o.steps; fine = (f, o.fine) }
  opens_past z r b g k (held m a t c) w v f o = record {
    steps = Star-map (Turn A b) (Turn A b) (laws.held g (map plain_answer m ++ plain_answer a ∷ []) (plain_answer a) (erased t) c) (λ y y' s. Turn.past_held s) (erased_slots w) o.steps;
    fine = (f, o.fine);
  }
  opens_past z r b g k (redone m x t i) w v f o = absurd f
  opens_past z r b g k (again m a t c) w v f o = absurd f
  opens_past z r b g k (drained m x t i n) w v f o = record {
    steps = Star-map (Turn A b) (Turn A b) (λ y. laws.drained g (map plain_answer m) (erased t) i n y) (λ y y' s. events.past_drained s) (erased_slots w) o.steps;
    fine = (f, o.fine);
  }

  strong_behind : (b : ℕ) (g : Tree) (k : Bool) (x : Progress) (w : Slots) (z : Where) (r : ℕ) → FineBegun p.loud z r g x → Strong A b (erased_slots (slot g k x w)) → Strong A b (erased_slots w)
  strong_behind b g k (idle i) w z r f h = h.1
  strong_behind b g k (stored m) w z r f h = h.2
  strong_behind b g k (busy x t) w z r f h = h.3
  strong_behind b g k (held m a t c) w z r f h = h.5
  strong_behind b g k (redone m x t i) w z r f h = absurd f
  strong_behind b g k (again m a t c) w z r f h = absurd f
  strong_behind b g k (drained m x t i n) w z r f h = h.5

  -- the task with its first frame's slots after an event
  made_frame : (r c : ℕ) (s : State) (rd : Round) (w v : Slots) (l : Alternatives) (u : Task) → task r c (alternative (frame s rd v) l) ≡ u
      → Made p good heeds (task r c (alternative (frame s rd w) l)) (task r c (alternative (frame s rd v) l)) → Made p good heeds (task r c (alternative (frame s rd w) l)) u
  made_frame r c s rd w v l u e m = subst (λ x. Made p good heeds (task r c (alternative (frame s rd w) l)) x) e m

  mutual
    pub Made-in_task : (k : Kind) (i : ℕ) (path : List ℕ) (t u : Task) (g : Tree) (z : ℕ) → in_task p k i path t ≡ Some u → TaskInvariant A g z (erased t) → Fine p.loud t → Made p good heeds t u
    Made-in_task k i path (task r c exhausted) u g z h ti f = absurd (cc)
    Made-in_task k i path (task r c (alternative (state s) l)) u g z h ti f = absurd (cc)
    Made-in_task k i path (task r c (alternative (frame s Closed w) l)) u g z h ti f = absurd (cc)
    Made-in_task k i path (task r c (alternative (frame s First w) l)) u g z h ti f =
        let q = Some-mapped (task r c) (mapped (λ a. alternative a l) (mapped (frame s First) (in_slots p k i path r s.next w))) u h in
        let a = Some-mapped (λ a. alternative a l) (mapped (frame s First) (in_slots p k i path r s.next w)) q.0 q.1.0 in
        let v = Some-mapped (frame s First) (in_slots p k i path r s.next w) a.0 a.1.0 in
        let e : task r c (alternative (frame s First v.0) l) ≡ u = cc in
        let n : next_of (plain_of s) ≡ s.next = next_of-forked s (erased_slots w) ti.1 in
        let o = Opens-in_slots k i path (past 0) r s.next w v.0 v.1.0 (subst (λ b. Strong A b (erased_slots w)) n ti.2) f.0.1 in
        made_frame r c s First w v.0 l u e (record {
          steps =
              Star-map (Turn A s.next) (Step A) (λ x. laws.task c (laws.frame (plain_of s) laws.first x (erased_alternatives l))) (λ x y d. events.in_first (subst (λ b. Turn A b x y) (sym n) d)) (erased_slots w) o.steps;
          fine = ((f.0.0, o.fine), f.1);
          given = λ b d. d;
        })
    Made-in_task k i path (task r c (alternative (frame s Later w) l)) u g z h ti f =
        let q = Some-mapped (task r c) (mapped (λ a. alternative a l) (mapped (frame s Later) (in_slots p k i path r s.next w))) u h in
        let a = Some-mapped (λ a. alternative a l) (mapped (frame s Later) (in_slots p k i path r s.next w)) q.0 q.1.0 in
        let v = Some-mapped (frame s Later) (in_slots p k i path r s.next w) a.0 a.1.0 in
        let e : task r c (alternative (frame s Later v.0) l) ≡ u = cc in
        let n : next_of (plain_of s) ≡ s.next = next_of-forked s (erased_slots w) ti.1 in
        let o = Laters-in_slots k i path r s.next w v.0 v.1.0 (subst (λ b. Pivot A b (erased_slots w)) n ti.2) f.0.1 in
        made_frame r c s Later w v.0 l u e (record {
          steps =
              Star-map (Spin A s.next) (Step A) (λ x. laws.task c (laws.frame (plain_of s) laws.later x (erased_alternatives l))) (λ x y d. events.in_later (subst (λ b. Spin A b x y) (sym n) d)) (erased_slots w) o.steps;
          fine = ((f.0.0, o.fine), f.1);
          given = λ b d. d;
        })

    Turns-in_slot : (k : Kind) (path : List ℕ) (z : Where) (r b : ℕ) (g : Tree) (o : Bool) (x : Progress) (y : Recorded) (W : laws.Slots) → in_slot p k path r b g o x ≡ Some y → Strong A b (erased_slot g x W)
        → FineBegun p.loud z r g x → Turns z r b g x y.1 W
    Turns-in_slot k [] z r b g o x y W h st f = at_turns r b g k z o x y W h st f
    Turns-in_slot k (j ∷ path) z r b g o (idle i) y W h st f = absurd (cc)
    Turns-in_slot k (j ∷ path) z r b g o (stored m) y W h st f = absurd (cc)
    Turns-in_slot k (j ∷ path) z r b g o (held m a t c) y W h st f = absurd (cc)
    Turns-in_slot k (j ∷ path) z r b g o (redone m x t i) y W h st f = absurd f
    Turns-in_slot k (j ∷ path) z r b g o (again m a t c) y W h st f = absurd f
    Turns-in_slot k (j ∷ path) z r b g o (busy x t) y W h st f =
        let q = Some-if (is_running x) (mapped (λ u. (o, busy x u)) (in_task p k j path t)) y h in
        let u = Some-mapped (λ u. (o, busy x u)) (in_task p k j path t) y q.1 in
        turns_along r b g z (busy x t) (busy x u.0) y.1 W (ap (λ v. v.1) u.1.1) (within r b g z x t u.0 W q.0 f (Made-in_task k j path t u.0 g b u.1.0 st.1 f.1))
    Turns-in_slot k (j ∷ path) z r b g o (drained m x t i n) y W h st f =
        let q = Some-if (is_running x) (mapped (λ u. (o, drained m x u i n)) (in_task p k j path t)) y h in
        let u = Some-mapped (λ u. (o, drained m x u i n)) (in_task p k j path t) y q.1 in
        turns_along r b g z (drained m x t i n) (drained m x u.0 i n) y.1 W (ap (λ v. v.1) u.1.1) (within_drained r b g z m x t u.0 i n W q.0 f (Made-in_task k j path t u.0 g b u.1.0 st.1 f.1))

    Opens-in_slots : (k : Kind) (i : ℕ) (path : List ℕ) (z : Where) (r b : ℕ) (w v : Slots) → in_slots p k i path r b w ≡ Some v → Strong A b (erased_slots w) → FineOpen p.loud z r w → Opens z r b w v
    Opens-in_slots k i path z r b no_slot v h st f = absurd (cc)
    Opens-in_slots k zero path z r b (slot g o x w) v h st f = absurd (cc)
    Opens-in_slots k (suc zero) path z r b (slot g o x w) v h st f =
        let q = Some-mapped (λ y. slot g y.0 y.1 w) (in_slot p k path r b g o x) v h in
        let t = Turns-in_slot k path z r b g o x q.0 (erased_slots w) q.1.0 st f.0 in
        opens_along z r b (slot g o x w) (slot g q.0.0 q.0.1 w) v q.1.1 (record { steps = t.steps; fine = (t.fine, t.behind w f.1) })
    Opens-in_slots k (suc (suc i)) path z r b (slot g o x w) v h st f =
        let q = Some-mapped (slot g o x) (in_slots p k (suc i) path r b w) v h in
        opens_along z r b (slot g o x w) (slot g o x q.0) v q.1.1
        (opens_past z r b g o x w q.0 f.0 (Opens-in_slots k (suc i) path (next_to z x) r b w q.0 q.1.0 (strong_behind b g o x w z r f.0 st) f.1))

    Laters-in_slots : (k : Kind) (i : ℕ) (path : List ℕ) (r b : ℕ) (w v : Slots) → in_slots p k i path r b w ≡ Some v → Pivot A b (erased_slots w) → FineLater p.loud r w → Laters r b w v
    Laters-in_slots k i path r b no_slot v h st f = absurd f
    Laters-in_slots k i path r b (slot g o (idle j) w) v h st f = absurd f
    Laters-in_slots k i path r b (slot g o (stored m) w) v h st f = absurd f
    Laters-in_slots k i path r b (slot g o (busy x t) w) v h st f = absurd f
    Laters-in_slots k i path r b (slot g o (drained m x t j n) w) v h st f = absurd f
    Laters-in_slots k zero path r b (slot g o (held m a t c) w) v h st f = absurd (cc)
    Laters-in_slots k (suc zero) [] r b (slot g o (held m a t c) w) v h st f =
        let q = Some-mapped (λ y. slot g y.0 y.1 w) (at_slot p k r b g o (held m a t c)) v h in
        let e : slot g q.0.0 (held m a t c) w ≡ slot g q.0.0 q.0.1 w = ap (λ y. slot g q.0.0 y w) (at_held r b g k o m a t c q.0 q.1.0) in
        laters_along r b (slot g o (held m a t c) w) (slot g q.0.0 (held m a t c) w) v (e ∙ q.1.1) (record { steps = here; fine = f })
    Laters-in_slots k (suc zero) (j ∷ path) r b (slot g o (held m a t c) w) v h st f = absurd (cc)
    Laters-in_slots k (suc (suc i)) path r b (slot g o (held m a t c) w) v h st f =
        let q = Some-mapped (slot g o (held m a t c)) (in_slots p k (suc i) path r b w) v h in
        let d = Laters-in_slots k (suc i) path r b w q.0 q.1.0 st.4 f.1 in
        laters_along r b (slot g o (held m a t c) w) (slot g o (held m a t c) q.0) v q.1.1 (record {
          steps = Star-map (Spin A b) (Spin A b) (laws.held g (map plain_answer m ++ plain_answer a ∷ []) (plain_answer a) (erased t) c) (λ y y' s. events.left_of s) (erased_slots w) d.steps;
          fine = (f.0, d.fine);
        })
    Laters-in_slots k zero path r b (slot g o (again m a t c) w) v h st f = absurd (cc)
    Laters-in_slots k (suc zero) [] r b (slot g o (again m a t c) w) v h st f =
        let q = Some-mapped (λ y. slot g y.0 y.1 w) (at_slot p k r b g o (again m a t c)) v h in
        let e : slot g q.0.0 (again m a t c) w ≡ slot g q.0.0 q.0.1 w = ap (λ y. slot g q.0.0 y w) (at_again r b g k o m a t c q.0 q.1.0) in
        laters_along r b (slot g o (again m a t c) w) (slot g q.0.0 (again m a t c) w) v (e ∙ q.1.1) (record { steps = here; fine = f })
    Laters-in_slots k (suc zero) (j ∷ path) r b (slot g o (again m a t c) w) v h st f = absurd (cc)
    Laters-in_slots k (suc (suc i)) path r b (slot g o (again m a t c) w) v h st f =
        let q = Some-mapped (slot g o (again m a t c)) (in_slots p k (suc i) path r b w) v h in
        let d = Opens-in_slots k (suc i) path undrained r b w q.0 q.1.0 st.4 f.1 in
        laters_along r b (slot g o (again m a t c) w) (slot g o (again m a t c) q.0) v q.1.1 (record {
          steps = Star-map (Turn A b) (Spin A b) (laws.again g (map plain_answer m ++ plain_answer a ∷ []) (plain_answer a) (erased t) c) (λ y y' s. events.right_of s) (erased_slots w) d.steps;
          fine = (f.0, d.fine);
        })
    Laters-in_slots k zero path r b (slot g o (redone m x t j) w) v h st f = absurd (cc)
    Laters-in_slots k (suc zero) [] r b (slot g o (redone m x t j) w) v h st f =
        let q = Some-mapped (λ y. slot g y.0 y.1 w) (at_slot p k r b g o (redone m x t j)) v h in
        let d = at_spins r b g k o m x t j q.0 w q.1.0 st.1 f (FineOpen-AreWaiting p.loud r w f.2) in
        laters_along r b (slot g o (redone m x t j) w) (slot g q.0.0 q.0.1 w) v q.1.1 (record { steps = d.steps; fine = d.fine q.0.0 })
    Laters-in_slots k (suc zero) (n ∷ path) r b (slot g o (redone m x t j) w) v h st f =
        let q = Some-mapped (λ y. slot g y.0 y.1 w) (in_slot p k (n ∷ path) r b g o (redone m x t j)) v h in
        let e = Some-if (is_running x) (mapped (λ u. (o, redone m x u j)) (in_task p k n path t)) q.0 q.1.0 in
        let u = Some-mapped (λ u. (o, redone m x u j)) (in_task p k n path t) q.0 e.1 in
        let d = spins_along r b g (redone m x t j) (redone m x u.0 j) q.0.1 w (ap (λ y. y.1) u.1.1) (within_redone r b g m x t u.0 j o w e.0 f (Made-in_task k n path t u.0 g b u.1.0 st.1 f.1)) in
        laters_along r b (slot g o (redone m x t j) w) (slot g q.0.0 q.0.1 w) v q.1.1 (record { steps = d.steps; fine = d.fine q.0.0 })
    Laters-in_slots k (suc (suc i)) path r b (slot g o (redone m x t j) w) v h st f =
        let q = Some-mapped (slot g o (redone m x t j)) (in_slots p k (suc i) path r b w) v h in
        let d = in_waiting k (suc i) path r b w q.0 f.2 q.1.0 in
        laters_along r b (slot g o (redone m x t j) w) (slot g o (redone m x t j) q.0) v q.1.1 (record {
          steps = Star-map Forgets (Spin A b) (laws.redone g (map plain_answer m) (erased t) j) (λ y y' s. events.forgets_right s) (erased_slots w) d.steps;
          fine = (f.0, f.1, d.waiting);
        })
