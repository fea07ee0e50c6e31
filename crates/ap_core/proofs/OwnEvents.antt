-- The events of a task are events of the erased task, and keep what is fine.
use Rattle.std.proofs.Common.{◌≡◌, ℕ, zero, suc, ◌+◌, ◌-◌, ◌<◌, ◌≤◌, ◌⊎◌, inl, inr, nat_lt, Bool, true, false, not, ◌&&◌, is_none, if◌then◌else◌, List, [], ◌∷◌, ◌++◌, map, Option, Some, None, refl, ap, sym, ◌∙◌, subst, arith}
use Rattle.std.specs.List.{list_all}
use Rattle.std.proofs.lemmas.Bool.{false≢true, not-true, not-false, ltb-true, ltb-false, and_parts}
use Rattle.ap_term.specs.declared.clauses.Check.{Check}
use Rattle.ap_term.specs.declared.faults.Fault.{Fault}
use Rattle.ap_term.specs.Tree.{Tree, Trees, none, more, append_trees}
use Rattle.ap_term.specs.Goals.{Part, call, group, Program, plain_goals}
use Rattle.ap_term.specs.Independence.{AreApart}
use Rattle.ap_term.specs.WellFormed.{IsProgram}
use Rattle.ap_term.specs.Search.{State, by_goals, children}
use Rattle.ap_laws.specs.Plain.{Plain, Ways, plain_by, plain_of, next_of, plain_ways, Renames, Locals, HasFullGroups}
use Rattle.ap_laws.specs.Plain as plain
use Rattle.ap_laws.specs.Tasks as laws
use Rattle.ap_laws.specs.Tasks.{edge_slots, slot_goals}
use Rattle.ap_laws.specs.Events as events
use Rattle.ap_laws.specs.Events.{Step, plains, freshes, joined_state, IsExhausted, IsFull}
use Rattle.ap_laws.proofs.Invariant.{TaskInvariant, IsForkOf, IsShut}
use Rattle.ap_laws.proofs.Views.{HasFullGroups-children}
use Rattle.ap_laws.proofs.Plain.{Renames-plain_ways, Locals-plain_ways}
use Rattle.ap_laws.proofs.Events.{Effect-Step}
use Rattle.ap_laws.proofs.GroupedEvents as grouped
use Rattle.ap_core.specs.declared.tasks.Round.{Round}
use Rattle.ap_core.specs.declared.tasks.Round.TheVariants.{First, Later, Closed}
use Rattle.ap_core.specs.declared.events.Kind.{Kind}
use Rattle.ap_core.specs.declared.events.Kind.TheVariants as kinds
use Rattle.ap_core.specs.Tasks.{Task, task, Alternatives, exhausted, alternative, state, frame, Slots, Progress}
use Rattle.ap_core.specs.Conditions.{has_goals, are_apart, check_holds, is_open, some_failed, all_answered, some_runs, some_has_more, some_is_again, before_failed, is_quiet, is_settled, answered_left, place_to_drain, left_edge, Verdict, wait, joins, breaks, drains, raises, spends, verdict}
use Rattle.ap_core.specs.Relation.{Rules, only_if, states, inferred, ready, fork_goals, forked, with_answers, joined_by, joined, after_failure, broken_by, broken, drained_at, drained_by, drain, redo_from, redo, readied, replayed, each_slot, begun_anew, own}
use Rattle.ap_core.specs.Erased.{erased, erased_alternatives, erased_slots, round_of}
use Rattle.ap_core.specs.Heeding.{Heeds}
use Rattle.ap_core.proofs.Options.{Some-only_if, Some-if, Some-mapped, Star, here, onward, Star-one, Star-map, Star-then}
use Rattle.ap_core.proofs.Fine.{IsGiven, past, Fine, FineFirst, FineBehind, FineOpen, FineLater, FineShut}
use Rattle.ap_core.proofs.Erasing.{erased-states, FineBehind-states, FineFirst-FineBehind, erased-ready, FineOpen-ready, erased-all_readied, some_is_again-FineOpen, FineLater-all_readied, FineLater-all_replayed, Spins-all_replayed, with_answers-joined_state, IsFull-all_answered, left_edge-full, left_edge-FineOpen, left_edge-FineLater, left_edge-failed, HasFailedSafely-quiet, HasFailedSafely-settled, HasFailedLater-some_failed, FineShut-FineOpen, FineShut-FineLater, HasNoAlternative-some_has_more, Redoes, Redoes-redo_from, FineLater-redo_from}
use Rattle.ap_core.proofs.Judging.{Unfailed, all_joins, one_raises, edge_above, one_spent, one_waits, FirstMeans, first_breaks, first_drains, first_above, first_else, first_means, LaterMeans, later_breaks, later_above, later_else, later_means}
use Rattle.ap_core.proofs.Draining.{Drained, Drained-at}
use Rattle.ap_core.proofs.Apart.{AreApart-are_apart}

pub some_left : (s : State) → has_goals s ≡ true → s.goals ≡ [] → ⊥
some_left s e h = go s.goals h e
  where
    go : (ps : List Part) → ps ≡ [] → by_goals ps false true ≡ true → ⊥
    go [] h e = false≢true e
    go (g ∷ gs) h e = cc

-- a state that was forked has goals, so its variables are numbered as it says
pub next_of-forked : (s : State) (w : laws.Slots) → IsForkOf (plain_of s) w → next_of (plain_of s) ≡ s.next
next_of-forked s w h = go s.fault (plain_goals s.goals) h.4
  where
    go : (f : Option Fault) (G : Trees) → plain_by f G s.tuple s.next s.steps ≡ plain.state (append_trees (slot_goals w) h.0) h.1 h.2 h.3 → next_of (plain_by f G s.tuple s.next s.steps) ≡ s.next
    go f (more g G) e = refl
    go None none e = refl
    go (Some x) none e = absurd (cc)

module _ (p : Rules) (good : IsProgram p.program) (heeds : Heeds p.loud p.program) where
  abbrev pub A : Ways
  A = plain_ways p.program

  -- what an event of a task does
  pub record Made (t u : Task) : Type 0 where
    pub steps : Star (Step A) (erased t) (erased u)
    pub fine : Fine p.loud u
    pub given : (b : ℕ) → IsGiven b t → IsGiven b u

  made_along : (t u v : Task) → u ≡ v → Made t u → Made t v
  made_along t u v e m = subst (λ x. Made t x) e m

  infer : (t u : Task) → inferred p.program t ≡ Some u → Fine p.loud t → Made t u
  infer (task r c exhausted) u h f = absurd (cc)
  infer (task r c (alternative (frame s rd w) l)) u h f = absurd (cc)
  infer (task r c (alternative (state s) l)) u h f =
      let q = Some-only_if (has_goals s && nat_lt 0 r) (task (r - 1) (c + 1) (states (children p.program s) l)) u h in
      let k = and_parts (has_goals s) (nat_lt 0 r) q.0 in
      let lt : 0 < r = ltb-true 0 r k.1 in
      made_along (task r c (alternative (state s) l)) (task (r - 1) (c + 1) (states (children p.program s) l)) u q.1 (record {
        steps =
            Star-one (Step A) (erased (task r c (alternative (state s) l))) (erased (task (r - 1) (c + 1) (states (children p.program s) l)))
            (subst (λ n. Step A (laws.task c (laws.plain (plain_of s) (erased_alternatives l))) (laws.task n (erased_alternatives (states (children p.program s) l)))) (omega arith)
            (subst (λ m. Step A (laws.task c (laws.plain (plain_of s) (erased_alternatives l))) (laws.task (suc c) m)) (sym (erased-states (children p.program s) l))
            ((grouped.events p.program good).0 s f.0 (some_left s k.0) c (erased_alternatives l))));
        fine = FineFirst-FineBehind p.loud (r - 1) (states (children p.program s) l) (FineBehind-states p.loud (children p.program s) l (HasFullGroups-children p.program good s f.0) f.1);
        given = λ b e. omega arith;
      })

  fork : (t u : Task) → forked t ≡ Some u → Fine p.loud t → Made t u
  fork (task r c exhausted) u h f = absurd (cc)
  fork (task r c (alternative (frame s rd w) l)) u h f = absurd (cc)
  fork (task r c (alternative (state s) l)) u h f =
      let q = Some-mapped (λ gs. task r c (alternative (frame s First (ready gs)) l)) (fork_goals s.goals) u h in
      made_along (task r c (alternative (state s) l)) (task r c (alternative (frame s First (ready q.0)) l)) u q.1.1 (go s.goals refl q.0 q.1.0)
    where
      go : (ps : List Part) → s.goals ≡ ps → (gs : Trees) → fork_goals ps ≡ Some gs → Made (task r c (alternative (state s) l)) (task r c (alternative (frame s First (ready gs)) l))
      go [] e gs h = absurd (cc)
      go (call g ∷ ps) e gs h = absurd (cc)
      go (group cs hs ∷ ps) e gs h =
          let q = Some-only_if (list_all check_holds cs && are_apart hs) hs gs h in
          let k = and_parts (list_all check_holds cs) (are_apart hs) q.0 in
          made_along (task r c (alternative (state s) l)) (task r c (alternative (frame s First (ready hs)) l)) (task r c (alternative (frame s First (ready gs)) l)) (ap (λ xs. task r c (alternative (frame s First (ready xs)) l)) q.1) (record {
            steps =
                Star-one (Step A) (erased (task r c (alternative (state s) l))) (erased (task r c (alternative (frame s First (ready hs)) l)))
                (subst (λ w. Step A (laws.task c (laws.plain (plain_of s) (erased_alternatives l))) (laws.task c (laws.frame (plain_of s) laws.first w (erased_alternatives l)))) (sym (erased-ready hs))
                ((grouped.events p.program good).1 s cs hs ps f.0 e (AreApart-are_apart hs k.1) c (erased_alternatives l)));
            fine = ((f.0, FineOpen-ready p.loud (past 0) r hs), f.1);
            given = λ b e. e;
          })

  shut : (rd : Round) (r c : ℕ) (s : State) (w : Slots) (l : Alternatives) → Fine p.loud (task r c (alternative (frame s rd w) l)) → HasFullGroups s × FineShut p.loud w × FineBehind p.loud l
  shut First r c s w l f = (f.0.0, FineShut-FineOpen p.loud (past 0) r w f.0.1, f.1)
  shut Later r c s w l f = (f.0.0, FineShut-FineLater p.loud r w f.0.1, f.1)
  shut Closed r c s w l f = (f.0.0, f.0.1, f.1)

  -- the slots' goals come first in the state that was forked
  fork_of : (rd : Round) (r c : ℕ) (s : State) (w : Slots) (l : Alternatives) (g : Tree) (z : ℕ) → TaskInvariant A g z (erased (task r c (alternative (frame s rd w) l))) → IsForkOf (plain_of s) (erased_slots w)
  fork_of First r c s w l g z i = i.1
  fork_of Later r c s w l g z i = i.1
  fork_of Closed r c s w l g z i = i.1

  -- the state with all answers, before the closed frame
  join_step : (rd : Round) (r c e : ℕ) (s : State) (w : Slots) (l : Alternatives) → is_open rd ≡ true → all_answered w ≡ true → left_edge r 0 w ≡ e → next_of (plain_of s) ≡ s.next
      → Step A (erased (task r c (alternative (frame s rd w) l))) (erased (task (r - e) (c + e) (alternative (state (with_answers w s.next s)) (alternative (frame s Closed w) l))))
  join_step rd r c e s w l o full cost next = go rd o
    where
      target : laws.task (c + edge_slots (erased_slots w)) (laws.plain (events.joined (erased_slots w) (next_of (plain_of s)) (plain_of s)) (laws.frame (plain_of s) laws.closed (erased_slots w) (erased_alternatives l)))
          ≡ erased (task (r - e) (c + e) (alternative (state (with_answers w s.next s)) (alternative (frame s Closed w) l)))
      target =
          let x : edge_slots (erased_slots w) ≡ e = omega (arith, left_edge-full r 0 w full) in
          let y : plain_of (joined_state (erased_slots w) s.next s) ≡ events.joined (erased_slots w) s.next (plain_of s) = ((grouped.events p.program good).2 (erased_slots w) s.next s).0 in
          let z : plain_of (with_answers w s.next s) ≡ plain_of (joined_state (erased_slots w) s.next s) = ap plain_of (with_answers-joined_state w s.next s) in
          ap (λ n. laws.task (c + n) (laws.plain (events.joined (erased_slots w) (next_of (plain_of s)) (plain_of s)) (laws.frame (plain_of s) laws.closed (erased_slots w) (erased_alternatives l)))) x
          ∙ ap (λ n. laws.task (c + e) (laws.plain (events.joined (erased_slots w) n (plain_of s)) (laws.frame (plain_of s) laws.closed (erased_slots w) (erased_alternatives l)))) next
          ∙ ap (λ u. laws.task (c + e) (laws.plain u (laws.frame (plain_of s) laws.closed (erased_slots w) (erased_alternatives l)))) (sym (z ∙ y))

      go : (rd : Round) → is_open rd ≡ true
          → Step A (erased (task r c (alternative (frame s rd w) l))) (erased (task (r - e) (c + e) (alternative (state (with_answers w s.next s)) (alternative (frame s Closed w) l))))
      go First o = subst (λ x. Step A (erased (task r c (alternative (frame s First w) l))) x) target (events.join_first (IsFull-all_answered w full))
      go Later o = subst (λ x. Step A (erased (task r c (alternative (frame s Later w) l))) x) target (events.join_later (IsFull-all_answered w full))
      go Closed o = absurd (false≢true o)

  joining : (rd : Round) (r c n : ℕ) (s : State) (w : Slots) (l : Alternatives) (g : Tree) (z : ℕ) → is_open rd ≡ true → all_answered w ≡ true → left_edge r 0 w ≡ n → n ≤ r
      → TaskInvariant A g z (erased (task r c (alternative (frame s rd w) l))) → Fine p.loud (task r c (alternative (frame s rd w) l))
      → Made (task r c (alternative (frame s rd w) l)) (task (r - n) (c + n) (alternative (state (with_answers w s.next s)) (alternative (frame s Closed w) l)))
  joining rd r c n s w l g z o full cost le i f =
      let sh = shut rd r c s w l f in
      let all : HasFullGroups (with_answers w s.next s) = subst HasFullGroups (sym (with_answers-joined_state w s.next s)) (((grouped.events p.program good).2 (erased_slots w) s.next s).1 sh.0) in
      record {
        steps =
            Star-one (Step A) (erased (task r c (alternative (frame s rd w) l))) (erased (task (r - n) (c + n) (alternative (state (with_answers w s.next s)) (alternative (frame s Closed w) l))))
            (join_step rd r c n s w l o full cost (next_of-forked s (erased_slots w) (fork_of rd r c s w l g z i)));
        fine = (all, ((sh.0, sh.1), sh.2));
        given = λ b q. omega (arith, le);
      }

  join_unfailed : (rd : Round) (r c : ℕ) (s : State) (w : Slots) (l : Alternatives) (u : Task) (g : Tree) (z : ℕ) → is_open rd ≡ true → TaskInvariant A g z (erased (task r c (alternative (frame s rd w) l)))
      → Fine p.loud (task r c (alternative (frame s rd w) l)) → (v : Verdict) → Unfailed r (left_edge r 0 w) w v → joined_by v r c s w l ≡ Some u → Made (task r c (alternative (frame s rd w) l)) u
  join_unfailed rd r c s w l u g z o i f (joins e) (all_joins full le) k =
      let same : task (r - left_edge r 0 w) (c + left_edge r 0 w) (alternative (state (with_answers w s.next s)) (alternative (frame s Closed w) l)) ≡ u = cc in
      made_along (task r c (alternative (frame s rd w) l)) (task (r - left_edge r 0 w) (c + left_edge r 0 w) (alternative (state (with_answers w s.next s)) (alternative (frame s Closed w) l))) u same
      (joining rd r c (left_edge r 0 w) s w l g z o full refl le i f)
  join_unfailed rd r c s w l u g z o i f (raises n e) (one_raises e' q le) k = absurd (cc)
  join_unfailed rd r c s w l u g z o i f spends (edge_above q) k = absurd (cc)
  join_unfailed rd r c s w l u g z o i f spends (one_spent q) k = absurd (cc)
  join_unfailed rd r c s w l u g z o i f wait one_waits k = absurd (cc)
  join_unfailed rd r c s w l u g z o i f (breaks n) x k = elim x [ ]
  join_unfailed rd r c s w l u g z o i f (drains n m) x k = elim x [ ]

  join : (t u : Task) (g : Tree) (z : ℕ) → joined p.loud t ≡ Some u → TaskInvariant A g z (erased t) → Fine p.loud t → Made t u
  join (task r c exhausted) u g z h i f = absurd (cc)
  join (task r c (alternative (state s) l)) u g z h i f = absurd (cc)
  join (task r c (alternative (frame s Closed w) l)) u g z h i f = absurd (cc)
  join (task r c (alternative (frame s First w) l)) u g z h i f = go (verdict p.loud First r w) (first_means p.loud r (left_edge r 0 w) w) h
    where
      go : (v : Verdict) → FirstMeans p.loud r (left_edge r 0 w) w v → joined_by v r c s w l ≡ Some u → Made (task r c (alternative (frame s First w) l)) u
      go (breaks n) (first_breaks q le) k = absurd (cc)
      go (drains n x) (first_drains j q d le) k = absurd (cc)
      go spends (first_above q) k = absurd (cc)
      go v (first_else q) k = join_unfailed First r c s w l u g z refl i f v q k
  join (task r c (alternative (frame s Later w) l)) u g z h i f = go (verdict p.loud Later r w) (later_means r (left_edge r 0 w) w) h
    where
      go : (v : Verdict) → LaterMeans r (left_edge r 0 w) w v → joined_by v r c s w l ≡ Some u → Made (task r c (alternative (frame s Later w) l)) u
      go (breaks n) (later_breaks q le) k = absurd (cc)
      go spends (later_above q) k = absurd (cc)
      go v (later_else q) k = join_unfailed Later r c s w l u g z refl i f v q k

  drop_step : (c : ℕ) (s : State) (w : Slots) (l : Alternatives) → some_has_more w ≡ false → IsShut (erased_slots w)
      → Step A (laws.task c (laws.frame (plain_of s) laws.closed (erased_slots w) (erased_alternatives l))) (laws.task c (erased_alternatives l))
  drop_step c s w l e h = events.dropped (HasNoAlternative-some_has_more w e h)

  -- a frame whose first round breaks
  break_first : (r c : ℕ) (s : State) (w : Slots) (l : Alternatives) → (before_failed (is_quiet p.loud) w ≡ true) ⊎ (before_failed (is_settled p.loud) w ≡ true) → left_edge r 0 w ≤ r
      → Fine p.loud (task r c (alternative (frame s First w) l)) → Made (task r c (alternative (frame s First w) l)) (task (r - left_edge r 0 w) (c + left_edge r 0 w) l)
  break_first r c s w l d le f = record {
    steps =
        Star-one (Step A) (erased (task r c (alternative (frame s First w) l))) (erased (task (r - left_edge r 0 w) (c + left_edge r 0 w) l))
        (events.break_first (left_edge r 0 w) (omega (arith, left_edge-FineOpen p.loud 0 r w f.0.1)) (elim d [
          | inl q ↦ HasFailedSafely-quiet p.loud p.program heeds (next_of (plain_of s)) (past 0) r w f.0.1 q
          | inr q ↦ HasFailedSafely-settled p.loud p.program heeds (next_of (plain_of s)) (past 0) r w f.0.1 q
        ]));
    fine = FineFirst-FineBehind p.loud (r - left_edge r 0 w) l f.1;
    given = λ b q. omega arith;
  }

  break_later : (r c : ℕ) (s : State) (w : Slots) (l : Alternatives) (g : Tree) (z : ℕ) → some_failed w ≡ true → left_edge r 0 w ≤ r → TaskInvariant A g z (erased (task r c (alternative (frame s Later w) l)))
      → Fine p.loud (task r c (alternative (frame s Later w) l)) → Made (task r c (alternative (frame s Later w) l)) (task (r - left_edge r 0 w) (c + left_edge r 0 w) (after_failure Later s w l))
  break_later r c s w l g z d le i f = go (some_has_more w) refl
    where
      n : ℕ
      n = left_edge r 0 w

      closing : Step A (erased (task r c (alternative (frame s Later w) l))) (laws.task (c + left_edge r 0 w) (laws.frame (plain_of s) laws.closed (erased_slots w) (erased_alternatives l)))
      closing = events.break_later (left_edge r 0 w) (omega (arith, left_edge-FineLater p.loud 0 r w f.0.1)) (HasFailedLater-some_failed p.loud r w f.0.1 d)

      closed : TaskInvariant A g z (laws.task (c + left_edge r 0 w) (laws.frame (plain_of s) laws.closed (erased_slots w) (erased_alternatives l)))
      closed = (Effect-Step A (Renames-plain_ways p.program good) (Locals-plain_ways p.program good) closing g z i).0

      go : (b : Bool) → some_has_more w ≡ b
          → Made (task r c (alternative (frame s Later w) l)) (task (r - left_edge r 0 w) (c + left_edge r 0 w) (if b then alternative (frame s Closed w) l else l))
      go true k = record {
        steps = onward here closing;
        fine = ((f.0.0, FineShut-FineLater p.loud r w f.0.1), f.1);
        given = λ b q. omega arith;
      }
      go false k = record {
        steps = onward (onward here closing) (drop_step (c + left_edge r 0 w) s w l k closed.6);
        fine = FineFirst-FineBehind p.loud (r - left_edge r 0 w) l f.1;
        given = λ b q. omega arith;
      }

  unbroken : (r c n : ℕ) (rd : Round) (s : State) (w : Slots) (l : Alternatives) (u : Task) (v : Verdict) → Unfailed r n w v → broken_by v r c rd s w l ≡ Some u → ⊥
  unbroken r c n rd s w l u (joins e) (all_joins full le) k = cc
  unbroken r c n rd s w l u (raises m e) (one_raises e' q le) k = cc
  unbroken r c n rd s w l u spends (edge_above q) k = cc
  unbroken r c n rd s w l u spends (one_spent q) k = cc
  unbroken r c n rd s w l u wait one_waits k = cc
  unbroken r c n rd s w l u (breaks m) x k = elim x [ ]
  unbroken r c n rd s w l u (drains m o) x k = elim x [ ]

  break : (t u : Task) (g : Tree) (z : ℕ) → broken p.loud t ≡ Some u → TaskInvariant A g z (erased t) → Fine p.loud t → Made t u
  break (task r c exhausted) u g z h i f = absurd (cc)
  break (task r c (alternative (state s) l)) u g z h i f = absurd (cc)
  break (task r c (alternative (frame s First w) l)) u g z h i f = go (verdict p.loud First r w) (first_means p.loud r (left_edge r 0 w) w) h
    where
      go : (v : Verdict) → FirstMeans p.loud r (left_edge r 0 w) w v → broken_by v r c First s w l ≡ Some u → Made (task r c (alternative (frame s First w) l)) u
      go (breaks n) (first_breaks q le) k =
          let y = Some-only_if (not (some_runs w)) (task (r - left_edge r 0 w) (c + left_edge r 0 w) l) u k in
          made_along (task r c (alternative (frame s First w) l)) (task (r - left_edge r 0 w) (c + left_edge r 0 w) l) u y.1 (break_first r c s w l q le f)
      go (drains n x) (first_drains j q d le) k = absurd (cc)
      go spends (first_above q) k = absurd (cc)
      go v (first_else q) k = absurd (unbroken r c (left_edge r 0 w) First s w l u v q k)
  break (task r c (alternative (frame s Later w) l)) u g z h i f = go (verdict p.loud Later r w) (later_means r (left_edge r 0 w) w) h
    where
      go : (v : Verdict) → LaterMeans r (left_edge r 0 w) w v → broken_by v r c Later s w l ≡ Some u → Made (task r c (alternative (frame s Later w) l)) u
      go (breaks n) (later_breaks q le) k =
          let y = Some-only_if (not (some_runs w)) (task (r - left_edge r 0 w) (c + left_edge r 0 w) (after_failure Later s w l)) u k in
          made_along (task r c (alternative (frame s Later w) l)) (task (r - left_edge r 0 w) (c + left_edge r 0 w) (after_failure Later s w l)) u y.1 (break_later r c s w l g z q le i f)
      go spends (later_above q) k = absurd (cc)
      go v (later_else q) k = absurd (unbroken r c (left_edge r 0 w) Later s w l u v q k)
  break (task r c (alternative (frame s Closed w) l)) u g z h i f =
      let q = Some-only_if (not (some_has_more w)) (task r c l) u h in
      made_along (task r c (alternative (frame s Closed w) l)) (task r c l) u q.1 (record {
        steps = onward here (drop_step c s w l (not-true (some_has_more w) q.0) i.6);
        fine = FineFirst-FineBehind p.loud r l f.1;
        given = λ b e. e;
      })

  undrained : (r c n : ℕ) (rd : Round) (s : State) (w : Slots) (l : Alternatives) (u : Task) (v : Verdict) → Unfailed r n w v → drained_by v r c rd s w l ≡ Some u → ⊥
  undrained r c n rd s w l u (joins e) (all_joins full le) k = cc
  undrained r c n rd s w l u (raises m e) (one_raises e' q le) k = cc
  undrained r c n rd s w l u spends (edge_above q) k = cc
  undrained r c n rd s w l u spends (one_spent q) k = cc
  undrained r c n rd s w l u wait one_waits k = cc
  undrained r c n rd s w l u (breaks m) x k = elim x [ ]
  undrained r c n rd s w l u (drains m o) x k = elim x [ ]

  draining : (t u : Task) → drain p.loud t ≡ Some u → Fine p.loud t → Made t u
  draining (task r c exhausted) u h f = absurd (cc)
  draining (task r c (alternative (state s) l)) u h f = absurd (cc)
  draining (task r c (alternative (frame s Closed w) l)) u h f = absurd (cc)
  draining (task r c (alternative (frame s First w) l)) u h f = go (verdict p.loud First r w) (first_means p.loud r (left_edge r 0 w) w) h
    where
      go : (v : Verdict) → FirstMeans p.loud r (left_edge r 0 w) w v → drained_by v r c First s w l ≡ Some u → Made (task r c (alternative (frame s First w) l)) u
      go (breaks n) (first_breaks q le) k = absurd (cc)
      go spends (first_above q) k = absurd (cc)
      go v (first_else q) k = absurd (undrained r c (left_edge r 0 w) First s w l u v q k)
      go (drains n x) (first_drains j q d le) k =
          let e : left_edge r 0 w ≡ 0 + edge_slots (erased_slots w) = left_edge-failed p.loud 0 r w f.0.1 q in
          let y = Some-only_if (not (some_runs w)) (task r c (alternative (frame s First (drained_at (r - left_edge r 0 w) (left_edge r 0 w) j w)) l)) u k in
          let m : left_edge r 0 w - 0 ≡ left_edge r 0 w = omega arith in
          let o = subst (λ y. Drained p.loud p.program heeds (next_of (plain_of s)) r (left_edge r 0 w) (r - left_edge r 0 w) le refl 0 w (drained_at (r - left_edge r 0 w) y j w)) m (Drained-at p.loud p.program heeds (next_of (plain_of s)) r (left_edge r 0 w) (r - left_edge r 0 w) le refl 0 j w e q d f.0.1) in
          made_along (task r c (alternative (frame s First w) l)) (task r c (alternative (frame s First (drained_at (r - left_edge r 0 w) (left_edge r 0 w) j w)) l)) u y.1 (record {
            steps = onward here (events.drain o.steps);
            fine = ((f.0.0, o.fine), f.1);
            given = λ b g. g;
          })
  draining (task r c (alternative (frame s Later w) l)) u h f = go (verdict p.loud Later r w) (later_means r (left_edge r 0 w) w) h
    where
      go : (v : Verdict) → LaterMeans r (left_edge r 0 w) w v → drained_by v r c Later s w l ≡ Some u → Made (task r c (alternative (frame s Later w) l)) u
      go (breaks n) (later_breaks q le) k = absurd (cc)
      go spends (later_above q) k = absurd (cc)
      go v (later_else q) k = absurd (undrained r c (left_edge r 0 w) Later s w l u v q k)

  redone : (t u : Task) (g : Tree) (z : ℕ) → redo t ≡ Some u → TaskInvariant A g z (erased t) → Fine p.loud t → Made t u
  redone (task r c exhausted) u g z h i f = absurd (cc)
  redone (task r c (alternative (state s) l)) u g z h i f = absurd (cc)
  redone (task r c (alternative (frame s First w) l)) u g z h i f = absurd (cc)
  redone (task r c (alternative (frame s Later w) l)) u g z h i f = absurd (cc)
  redone (task r c (alternative (frame s Closed w) l)) u g z h i f =
      let q = Some-only_if (some_has_more w) (task r c (alternative (frame s Later (redo_from r w)) l)) u h in
      made_along (task r c (alternative (frame s Closed w) l)) (task r c (alternative (frame s Later (redo_from r w)) l)) u q.1 (record {
        steps = again (Redoes-redo_from p.loud A (next_of (plain_of s)) r w q.0 i.6 f.0.1);
        fine = ((f.0.0, FineLater-redo_from p.loud r w q.0 i.6 f.0.1), f.1);
        given = λ b e. e;
      })
    where
      again : Redoes p.loud A (next_of (plain_of s)) w (redo_from r w) → Star (Step A) (erased (task r c (alternative (frame s Closed w) l))) (erased (task r c (alternative (frame s Later (redo_from r w)) l)))
      again d =
          Star-then (Step A) (onward here (events.redo d.1))
          (Star-map (events.Spin A (next_of (plain_of s))) (Step A) (λ x. laws.task c (laws.frame (plain_of s) laws.later x (erased_alternatives l))) (λ x y s'. events.in_later s') d.0 d.2)

  -- the slots but the redone one begin anew
  restart : (t u : Task) → begun_anew readied t ≡ Some u → Fine p.loud t → Made t u
  restart (task r c exhausted) u h f = absurd (cc)
  restart (task r c (alternative (state s) l)) u h f = absurd (cc)
  restart (task r c (alternative (frame s rd w) l)) u h f =
      let q = Some-only_if (is_open rd && some_is_again w) (task r c (alternative (frame s rd (each_slot readied w)) l)) u h in
      let k = and_parts (is_open rd) (some_is_again w) q.0 in
      made_along (task r c (alternative (frame s rd w) l)) (task r c (alternative (frame s rd (each_slot readied w)) l)) u q.1 (go rd k.0 k.1 f)
    where
      same : laws.task c (laws.frame (plain_of s) laws.later (erased_slots w) (erased_alternatives l)) ≡ laws.task c (laws.frame (plain_of s) laws.later (erased_slots (each_slot readied w)) (erased_alternatives l))
      same = ap (λ v. laws.task c (laws.frame (plain_of s) laws.later v (erased_alternatives l))) (sym (erased-all_readied w))

      go : (rd : Round) → is_open rd ≡ true → some_is_again w ≡ true → Fine p.loud (task r c (alternative (frame s rd w) l))
          → Made (task r c (alternative (frame s rd w) l)) (task r c (alternative (frame s rd (each_slot readied w)) l))
      go First o e f = absurd (some_is_again-FineOpen p.loud (past 0) r w f.0.1 e)
      go Later o e f = record {
        steps = subst (λ x. Star (Step A) (erased (task r c (alternative (frame s Later w) l))) x) same here;
        fine = ((f.0.0, FineLater-all_readied p.loud r w f.0.1 e), f.1);
        given = λ b q. q;
      }
      go Closed o e f = absurd (false≢true o)

  replay : (t u : Task) → begun_anew replayed t ≡ Some u → Fine p.loud t → Made t u
  replay (task r c exhausted) u h f = absurd (cc)
  replay (task r c (alternative (state s) l)) u h f = absurd (cc)
  replay (task r c (alternative (frame s rd w) l)) u h f =
      let q = Some-only_if (is_open rd && some_is_again w) (task r c (alternative (frame s rd (each_slot replayed w)) l)) u h in
      let k = and_parts (is_open rd) (some_is_again w) q.0 in
      made_along (task r c (alternative (frame s rd w) l)) (task r c (alternative (frame s rd (each_slot replayed w)) l)) u q.1 (go rd k.0 k.1 f)
    where
      go : (rd : Round) → is_open rd ≡ true → some_is_again w ≡ true → Fine p.loud (task r c (alternative (frame s rd w) l))
          → Made (task r c (alternative (frame s rd w) l)) (task r c (alternative (frame s rd (each_slot replayed w)) l))
      go First o e f = absurd (some_is_again-FineOpen p.loud (past 0) r w f.0.1 e)
      go Later o e f = record {
        steps =
            Star-map (events.Spin A (next_of (plain_of s))) (Step A) (λ x. laws.task c (laws.frame (plain_of s) laws.later x (erased_alternatives l))) (λ x y s'. events.in_later s') (erased_slots w)
            (Spins-all_replayed p.loud A (next_of (plain_of s)) r w f.0.1 e);
        fine = ((f.0.0, FineLater-all_replayed p.loud r w f.0.1 e), f.1);
        given = λ b q. q;
      }
      go Closed o e f = absurd (false≢true o)

  pub Made-own : (k : Kind) (t u : Task) (g : Tree) (z : ℕ) → own p k t ≡ Some u → TaskInvariant A g z (erased t) → Fine p.loud t → Made t u
  Made-own kinds.Infer t u g z h i f = infer t u h f
  Made-own kinds.Fork t u g z h i f = fork t u h f
  Made-own kinds.Start t u g z h i f = absurd (cc)
  Made-own kinds.Answer t u g z h i f = absurd (cc)
  Made-own kinds.Fail t u g z h i f = absurd (cc)
  Made-own kinds.Spend t u g z h i f = absurd (cc)
  Made-own kinds.Stop t u g z h i f = absurd (cc)
  Made-own kinds.Stopped t u g z h i f = absurd (cc)
  Made-own kinds.Join t u g z h i f = join t u g z h i f
  Made-own kinds.Break t u g z h i f = break t u g z h i f
  Made-own kinds.Redo t u g z h i f = redone t u g z h i f
  Made-own kinds.Restart t u g z h i f = restart t u h f
  Made-own kinds.Raise t u g z h i f = absurd (cc)
  Made-own kinds.Drain t u g z h i f = draining t u h f
  Made-own kinds.Forget t u g z h i f = absurd (cc)
  Made-own kinds.Replay t u g z h i f = replay t u h f
