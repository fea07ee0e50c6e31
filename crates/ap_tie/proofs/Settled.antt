-- Joins and breaks of the frame that comes first.
use Rattle.std.proofs.Common.{◌≡◌, ℕ, zero, suc, ◌+◌, ◌-◌, ◌⊎◌, inl, inr, Bool, true, false, ◌&&◌, not, if◌then◌else◌, List, [], ◌∷◌, map, Option, Some, None, refl, ap, ap₂, sym, ◌∙◌, subst}
use Rattle.std.specs.Prelude.{is_none, is_some, take}
use Rattle.std.specs.List.{AllZip, list_all}
use Rattle.std.proofs.lemmas.Bool.{false≢true}
use Rattle.std.proofs.lemmas.Option.{none-some, same_Some}
use Rattle.ap_term.specs.declared.faults.Fault.{Fault}
use Rattle.ap_term.specs.Tree.{Tree, Trees, none, more}
use Rattle.ap_term.specs.Substitution.{instance_all}
use Rattle.ap_term.specs.Goals.{Part, Program, plain_goals}
use Rattle.ap_term.specs.Search.{State, by_goals}
use Rattle.ap_laws.specs.Plain as plain
use Rattle.ap_laws.specs.Plain.{plain_of, plain_by}
use Rattle.ap_laws.specs.Graft.{graft_state}
use Rattle.ap_core.specs.declared.tasks.Round.{Round as CoreRound}
use Rattle.ap_core.specs.declared.tasks.Round.TheVariants as core_round
use Rattle.ap_core.specs.declared.events.Kind.TheVariants.{Join, Break}
use Rattle.ap_core.specs.Tasks as core
use Rattle.ap_core.specs.Tasks.{Answer, Task, task, Alternatives, exhausted, alternative, Alternative, state, frame, Progress, idle, stored, busy, redone, again, drained}
use Rattle.ap_core.specs.Conditions.{is_done, all_answered, some_has_more, some_runs, spent_by, Verdict, wait, joins, breaks, drains, raises, spends, verdict}
use Rattle.ap_core.specs.Relation.{Rules, own, answer, plain_answer, with_answers, joined_by, broken_by, after_failure}
use Rattle.ap_core.proofs.Options.{Some-if}
use Rattle.ap_frames.specs.declared.frame.Round.{Round}
use Rattle.ap_frames.specs.declared.frame.Round.TheVariants.{First, Draining, Later, Closed}
use Rattle.ap_frames.specs.Slots.{has_answer}
use Rattle.ap_frames.specs.Verdicts.{next_redo}
use Rattle.ap_parcall_laws.proofs.Rows.{answered-alike}
use Rattle.ap_tracked.specs.Tracked.{Tracked, untracked, untracked_goal, opened}
use Rattle.ap_tracked.specs.Marks.{opening}
use Rattle.ap_tracked.specs.Forks.{alone}
use Rattle.ap_tracked.specs.Kept.{IsKept}
use Rattle.ap_graft.specs.Grafts.{tracked_grafts}
use Rattle.ap_graft.specs.Joins.{IsAnswerOf, AreAnswers, graft_states}
use Rattle.ap_graft.proofs.Joins.{joining}
use Rattle.ap_instr.specs.Code.{Compiled}
use Rattle.ap_standing.specs.Machine.{Point, Machine}
use Rattle.ap_standing.specs.Holds.{Holds, HoldsPoints, AreOpen}
use Rattle.ap_standing.proofs.Machines.{points-failed}
use Rattle.ap_group.specs.Groups.{Forked}
use Rattle.ap_tie.specs.Sections.{Section, section, Stack, bottom, parcall, Slots, no_slot, slot, nothing, held, machine_in, rows}
use Rattle.ap_tie.specs.Shows.{Shows, before}
use Rattle.ap_tie.specs.Forked.{IsForked}
use Rattle.ap_tie.specs.Slots.{rest_of}
use Rattle.ap_tie.specs.Tied.{round_of, IsShutIn, UnlessCleared, HoldsTask, HoldsStack, HoldsSlots}
use Rattle.ap_tie.specs.Settled.{AllHeld, AreHeld, AreClosed, StoresBehind, MayShut, IsJoined, HasCounts, JoinLaw, stays, HasFailed, BreakLaw}
use Rattle.ap_tie.proofs.Answered.{alike}
use Rattle.ap_tie.proofs.Cleared.{staying-round, open-stands, stands-there, more-left}
use Rattle.ap_tie.proofs.Calls.{no-goals}

-- ---- the answer of a slot's section

-- no frame comes first where a task has an answer
frame_first : (code : Compiled) (p : Rules) (o : Tracked) (roots : List ℕ) (r c : ℕ) (st : Stack) (l : Alternatives) (y : Answer × Task) → HoldsStack code p o roots r st l → answer (task r c l) ≡ Some y → ⊥
frame_first code p o roots r c bottom l y h n = none-some _ (sym (ap (λ k. answer (task r c k)) h) ∙ n)
frame_first code p o roots r c (parcall f q rd w qs st) l y (s, i, v, ss, us, k, h0, h1, hs, h2, h3, h4, h5, z) n = none-some _ (sym (ap (λ k. answer (task r c k)) z) ∙ n)

done : (gs : List Part) (e : Option Fault) → by_goals gs (is_none e) false ≡ true → (gs ≡ []) × (e ≡ None)
done [] None h = (refl, refl)
done [] (Some e) h = absurd (false≢true h)
done (g ∷ gs) e h = absurd (false≢true h)

itself : (u : Tracked) (s : Tracked) → u.goals ≡ [] → (s ≡ u) ⊎ (s ≡ opening u) → s ≡ u
itself u s h (inl q) = q
itself u s h (inr q) = q ∙ ap (λ gs. record { goals = gs; tuple = u.tuple; next = u.next; steps = u.steps; fault = u.fault }) (ap opened h ∙ sym h)

-- what a section's task answers is a state that the machine stands at
pub record IsAt (code : Compiled) (p : Program) (b : ℕ) (g : Tree) (m : Machine) (a : Answer) (u : Tracked) : Type 0 where
  pub is_answer : IsAnswerOf p b g u
  pub at : (ss : List Tracked) × Holds code m (u ∷ ss)
  pub plain : plain_answer a ≡ plain_of (untracked u)

pub answer_at : (code : Compiled) (p : Rules) (b : ℕ) (g : Tree) (a : Section) (z t : Task) (x : Answer) → HoldsTask code p (alone g b) a z → answer z ≡ Some (x, t) → (u : Tracked) × IsAt code p.program b g (machine_in a) x u
answer_at code p b g (section m c e st) z t x (ss, xs, l, holds, shown, stack, is) n = go ss xs holds shown (sym (ap answer is) ∙ n)
  where
    here : (s : Tracked) (ss : List Tracked) (y : State) (l : Alternatives) (u : Tracked) → Holds code m (s ∷ ss) → IsKept p.program (alone g b) u → y ≡ untracked u → (s ≡ u) ⊎ (s ≡ opening u)
        → answer (task (e - c) c (alternative (state y) l)) ≡ Some (x, t) → IsAt code p.program b g m x u
    here s ss y l u h k q w n =
        let o = Some-if (is_done y) (Some (record { tuple = y.tuple; next = y.next; steps = y.steps }, task (e - c) c l)) (x, t) n in
        let d = done y.goals y.fault o.0 in
        let ended : u.goals ≡ [] = no-goals u.goals (sym (ap (λ v. v.goals) q) ∙ d.0) in
        let quiet : u.fault ≡ None = sym (ap (λ v. v.fault) q) ∙ d.1 in
        let is : plain_answer (record { tuple = y.tuple; next = y.next; steps = y.steps }) ≡ plain_answer x = ap (λ (v : Answer × Task). plain_answer v.0) (same_Some _ _ o.1) in
        record {
          is_answer = record { ended = ended; quiet = quiet; kept = k };
          at = (ss, subst (λ v. Holds code m (v ∷ ss)) (itself u s ended w) h);
          plain = sym is ∙ ap (λ v. plain.state none v.tuple v.next v.steps) q ∙ sym (ap₂ (λ f gs. plain_by f (plain_goals (map untracked_goal gs)) u.tuple u.next u.steps) quiet ended);
        }

    go : (ss : List Tracked) (xs : List Alternative) → Holds code m ss → AllZip (Shows p.program (alone g b)) ss xs → answer (task (e - c) c (before xs l)) ≡ Some (x, t) → (u : Tracked) × IsAt code p.program b g m x u
    go [] [] h k n = absurd (frame_first code p (alone g b) m.roots (e - c) c st l (x, t) stack n)
    go (s ∷ ss) [] h k n = absurd k
    go [] (y ∷ ys) h k n = absurd k
    go (s ∷ ss) (frame y rd w ∷ ys) h k n = absurd k.0
    go (s ∷ ss) (state y ∷ ys) h k n = (k.0.0, here s ss y (before ys l) k.0.0 h k.0.1 k.0.2 k.0.3 n)

-- ---- the answers of all slots

record Answers (code : Compiled) (p : Program) (b : ℕ) (gs : Trees) (w : Slots) (v : core.Slots) (us : List Tracked) : Type 0 where
  each : AreAnswers p b gs us
  are_held : AreHeld code w us
  put : (s : State) → with_answers v b s ≡ graft_states b s (map (λ u. plain_of (untracked u)) us)
  all : all_answered v ≡ true

answers : (code : Compiled) (p : Rules) (q b : ℕ) (gs : Trees) (w : Slots) (v : core.Slots) → HoldsSlots code p q b gs w v → AllHeld w → (us : List Tracked) × Answers code p.program b gs w v us
answers code p q b none no_slot v h a = ([], record { each = tt; are_held = tt; put = λ s. ap (λ k. with_answers k b s) h; all = ap all_answered h })
answers code p q b none (slot x n w) v h a = absurd h
answers code p q b (more g gs) no_slot v h a = absurd h
answers code p q b (more g gs) (slot x nothing w) v h a = absurd a
answers code p q b (more g gs) (slot x (held n) w) v (k, y, u, (loud, stands, (is_at, (m, e, t, z, c, source, comes, is_of, is))), rest, whole) a =
    let s = answer_at code p b g n z t e source comes in
    let r = answers code p q b gs w u rest a in (
      s.0 ∷ r.0,
      record {
        each = (s.1.is_answer, r.1.each);
        are_held = (s.1.at, r.1.are_held);
        put = λ i. ap (λ l. with_answers l b i) whole ∙ first is i ∙ r.1.put (graft_state b i (plain_answer e)) ∙ ap (λ l. graft_states b (graft_state b i l) (map (λ u. plain_of (untracked u)) r.0)) s.1.plain;
        all = ap all_answered whole ∙ more_answered is ∙ r.1.all;
      },
    )
  where
    first : (y ≡ core.held m e t c) ⊎ (y ≡ again m e t c) → (i : State) → with_answers (core.slot g k y u) b i ≡ with_answers u b (graft_state b i (plain_answer e))
    first (inl h) i = ap (λ l. with_answers (core.slot g k l u) b i) h
    first (inr h) i = ap (λ l. with_answers (core.slot g k l u) b i) h

    more_answered : (y ≡ core.held m e t c) ⊎ (y ≡ again m e t c) → all_answered (core.slot g k y u) ≡ all_answered u
    more_answered (inl h) = ap (λ l. all_answered (core.slot g k l u)) h
    more_answered (inr h) = ap (λ l. all_answered (core.slot g k l u)) h

-- ---- closed frames

pub rest_left : (code : Compiled) (p : Rules) (o : Tracked) (roots : List ℕ) (r x : ℕ) (st : Stack) (l : Alternatives) → AreClosed st → HoldsStack code p o roots r st l → HoldsStack code p o roots x st l
rest_left code p o roots r x bottom l a h = h
rest_left code p o roots r x (parcall f q First w qs st) l a h = absurd a
rest_left code p o roots r x (parcall f q (Draining n) w qs st) l a h = absurd a
rest_left code p o roots r x (parcall f q (Later i) w qs st) l a h = absurd a
rest_left code p o roots r x (parcall f q Closed w qs st) l a (s, i, v, ss, us, k, h0, h1, hs, h2, h3, h4, h5, z) =
    (s, i, v, ss, us, k, h0, tt, hs, h2, h3, h4, rest_left code p o roots r x st k a h5, z)

true_taken : {A : Type 0} (f : A → Bool) (n : ℕ) (x : A) (xs : List A) → (list_all f xs ≡ true → list_all f (take n xs) ≡ true) → (b : Bool) → f x ≡ b → (b && list_all f xs) ≡ true → (f x && list_all f (take n xs)) ≡ true
true_taken f n x xs next true e h = ap (λ c. c && list_all f (take n xs)) e ∙ next h
true_taken f n x xs next false e h = absurd (false≢true h)

all_taken : {A : Type 0} (f : A → Bool) (n : ℕ) (xs : List A) → list_all f xs ≡ true → list_all f (take n xs) ≡ true
all_taken f zero xs h = refl
all_taken f (suc n) [] h = refl
all_taken f (suc n) (x ∷ xs) h = true_taken f n x xs (all_taken f n xs) (f x) refl h

-- ---- a join

joined_by_verdict : (x : Verdict) (r c : ℕ) (s : State) (v : core.Slots) (l : Alternatives) (u : Task) → joined_by x r c s v l ≡ Some u
    → (e : ℕ) × (u ≡ task (r - e) (c + e) (alternative (state (with_answers v s.next s)) (alternative (frame s core_round.Closed v) l)))
joined_by_verdict wait r c s v l u h = absurd (none-some _ h)
joined_by_verdict (joins e) r c s v l u h = (e, sym (same_Some _ _ h))
joined_by_verdict (breaks e) r c s v l u h = absurd (none-some _ h)
joined_by_verdict (drains i x) r c s v l u h = absurd (none-some _ h)
joined_by_verdict (raises n e) r c s v l u h = absurd (none-some _ h)
joined_by_verdict spends r c s v l u h = absurd (none-some _ h)

with_counts : (d b r c : ℕ) (u : Task) (l : Alternatives) → HasCounts d b u → u ≡ task r c l → u ≡ task (b - d) d l
with_counts d b r c u l h e = e ∙ ap₂ (λ i j. task i j l) (sym (ap rest_of e) ∙ h.rest) (sym (ap spent_by e) ∙ h.spent)

pub join : JoinLaw
join code p o m c b f q rd w qs st t u good below all closed stores (ss, xs, l, holds, shown, (s, i, v, sv, ys, k, kept, rest, shut, left, points, shows, older, z), is) event = go ss xs shown is
  where
    r : ℕ
    r = b - c

    behind : Alternatives
    behind = before ys k

    main : t ≡ task r c l → (j : Tracked) × IsJoined code p.program o m.roots f w j × ((n : Machine) (d : ℕ) → n.roots ≡ m.roots → Holds code n (j ∷ []) → HasCounts d b u → HoldsTask code p o (section n d b (parcall f q Closed w qs st)) u)
    main is =
        let whole : t ≡ task r c (alternative (frame (untracked s) (round_of rd) v) behind) = is ∙ ap (task r c) z in
        let now = sym (ap (own p Join) whole) ∙ event in
        let e = joined_by_verdict (verdict p.loud (round_of rd) r v) r c (untracked s) v behind u now in
        let is_open_now : rd ≡ Closed → ⊥ = λ d. none-some _ (sym (ap (λ j. joined_by (verdict p.loud (round_of j) r v) r c (untracked s) v behind) d) ∙ now) in
        let slots : HoldsSlots code p q s.next (instance_all i.own i.goals) w v = open-stands rd w v _ is_open_now left in
        let a = answers code p q s.next (instance_all i.own i.goals) w v slots all in
        let j = joining p.program o s i.checks i.goals i.own i.now i.behind a.0 good below kept i.first i.apart a.1.each in
        let state_same : with_answers v s.next (untracked s) ≡ untracked (tracked_grafts s.next s a.0) = a.1.put (untracked s) ∙ j.1 in
        let answered : list_all has_answer (rows w) ≡ true = sym (answered-alike p.loud q (rows w) v (alike code p q s.next (instance_all i.own i.goals) w v slots)) ∙ a.1.all in
        let stored = subst (StoresBehind (rows w)) whole stores in (
          tracked_grafts s.next s a.0,
          record { forked = s; is_forked = i; kept = kept; answers = a.0; held = a.1.are_held; each = a.1.each; same = refl },
          λ n d same_roots h counts. (
            tracked_grafts s.next s a.0 ∷ [],
            state (with_answers v s.next (untracked s)) ∷ [],
            alternative (frame (untracked s) core_round.Closed v) behind,
            h,
            ((tracked_grafts s.next s a.0, j.0, state_same, inl refl), tt),
            subst (λ roots. HoldsStack code p o roots (b - d) (parcall f q Closed w qs st) (alternative (frame (untracked s) core_round.Closed v) behind)) (sym same_roots)
                (s, i, v, sv, ys, k, kept, tt, (λ n g. (all_taken has_answer (n - 1) (rows w) answered, stored n g)), stands-there code p q s.next (instance_all i.own i.goals) Closed w v slots, points, shows, rest_left code p o m.roots r (b - d) st k closed older, refl),
            with_counts d b (r - e.0) (c + e.0) u _ counts e.1,
          ),
        )

    go : (ss : List Tracked) (xs : List Alternative) → AllZip (Shows p.program o) ss xs → t ≡ task r c (before xs l) → (j : Tracked) × IsJoined code p.program o m.roots f w j × ((n : Machine) (d : ℕ) → n.roots ≡ m.roots → Holds code n (j ∷ []) → HasCounts d b u → HoldsTask code p o (section n d b (parcall f q Closed w qs st)) u)
    go [] [] h is = main is
    go (s ∷ ss) [] h is = absurd h
    go [] (y ∷ ys) h is = absurd h
    go (s ∷ ss) (frame y rd w ∷ ys) h is = absurd h.0
    go (s ∷ ss) (state y ∷ ys) h is = absurd (none-some _ (sym (ap (own p Join) is) ∙ event))

-- ---- a break

-- the task that a break leaves of a frame with these alternatives behind it
abbrev Leaves : Bool → State → core.Slots → Alternatives → Task → Type 0
Leaves b s v l u = (r : ℕ) × (c : ℕ) × (u ≡ task r c (if b then alternative (frame s core_round.Closed v) l else l))

broken_by_verdict : (x : Verdict) (r c : ℕ) (rd : CoreRound) (s : State) (v : core.Slots) (l : Alternatives) (u : Task) → broken_by x r c rd s v l ≡ Some u → (e : ℕ) × (u ≡ task (r - e) (c + e) (after_failure rd s v l))
broken_by_verdict wait r c rd s v l u h = absurd (none-some _ h)
broken_by_verdict (joins e) r c rd s v l u h = absurd (none-some _ h)
broken_by_verdict (breaks e) r c rd s v l u h = (e, sym (same_Some _ _ (Some-if (not (some_runs v)) (Some (task (r - e) (c + e) (after_failure rd s v l))) u h).1))
broken_by_verdict (drains i x) r c rd s v l u h = absurd (none-some _ h)
broken_by_verdict (raises n e) r c rd s v l u h = absurd (none-some _ h)
broken_by_verdict spends r c rd s v l u h = absurd (none-some _ h)

leaves : (p : Rules) (q r c : ℕ) (rd : Round) (w : Slots) (s : State) (v : core.Slots) (l : Alternatives) (u : Task) → some_has_more v ≡ is_some (next_redo (rows w))
    → own p Break (task r c (alternative (frame s (round_of rd) v) l)) ≡ Some u → Leaves (stays rd (rows w)) s v l u
leaves p q r c First w s v l u redo h = let e = broken_by_verdict (verdict p.loud core_round.First r v) r c core_round.First s v l u h in (r - e.0, c + e.0, e.1)
leaves p q r c (Draining n) w s v l u redo h = let e = broken_by_verdict (verdict p.loud core_round.First r v) r c core_round.First s v l u h in (r - e.0, c + e.0, e.1)
leaves p q r c (Later i) w s v l u redo h =
    let e = broken_by_verdict (verdict p.loud core_round.Later r v) r c core_round.Later s v l u h in
    (r - e.0, c + e.0, e.1 ∙ ap (λ b. task (r - e.0) (c + e.0) (if b then alternative (frame s core_round.Closed v) l else l)) redo)
leaves p q r c Closed w s v l u redo h = (r, c, sym (same_Some _ _ (Some-if (not (some_has_more v)) (Some (task r c l)) u h).1))

pub nothing_due : (code : Compiled) (roots : List ℕ) (qs : List Point) (n : Machine) (ss : List Tracked) → HasFailed roots qs n → HoldsPoints code roots qs ss → Holds code n ss
nothing_due code roots qs n ss h k =
    points-failed code n h.now (subst (AreOpen code) (sym h.returns) tt) ss
    (subst (λ rs. HoldsPoints code rs n.points ss) (sym h.roots_stay) (subst (λ ps. HoldsPoints code roots ps ss) (sym h.points) k))

-- what a frame that comes first in the section is in the task, and what a break leaves of that
record Broken (code : Compiled) (p : Rules) (o : Tracked) (m : Machine) (b : ℕ) (f : Forked) (q : ℕ) (rd : Round) (w : Slots) (qs : List Point) (st : Stack) (t u : Task) : Type 0 where
  forked : Tracked
  is_forked : IsForked code m.roots f forked
  slots : core.Slots
  states : List Tracked
  shown : List Alternative
  older : Alternatives
  kept : IsKept p.program o forked
  hold : UnlessCleared rd w slots (HoldsSlots code p q forked.next (instance_all is_forked.own is_forked.goals) w slots)
  points : HoldsPoints code m.roots qs states
  shows : AllZip (Shows p.program o) states shown
  rest : ℕ
  stack : HoldsStack code p o m.roots rest st older
  may_shut : MayShut (rows w) t → IsShutIn Closed (rows w) slots
  left : Leaves (stays rd (rows w)) (untracked forked) slots (before shown older) u

find_broken : (code : Compiled) (p : Rules) (o : Tracked) (m : Machine) (c b : ℕ) (f : Forked) (q : ℕ) (rd : Round) (w : Slots) (qs : List Point) (st : Stack) (t u : Task)
    → HoldsTask code p o (section m c b (parcall f q rd w qs st)) t → own p Break t ≡ Some u → Broken code p o m b f q rd w qs st t u
find_broken code p o m c b f q rd w qs st t u (ss, xs, l, holds, shown, (s, i, v, sv, ys, k, kept, rest, shut, slots, points, shows, older, z), is) event = go ss xs shown is
  where
    go : (ss : List Tracked) (xs : List Alternative) → AllZip (Shows p.program o) ss xs → t ≡ task (b - c) c (before xs l) → Broken code p o m b f q rd w qs st t u
    go [] [] h is =
        let whole : t ≡ task (b - c) c (alternative (frame (untracked s) (round_of rd) v) (before ys k)) = is ∙ ap (task (b - c) c) z in
        let redo = more-left code p q s.next (instance_all i.own i.goals) rd w v slots in
        record {
          forked = s;
          is_forked = i;
          slots = v;
          states = sv;
          shown = ys;
          older = k;
          kept = kept;
          hold = slots;
          points = points;
          shows = shows;
          rest = b - c;
          stack = older;
          may_shut = λ j. subst (MayShut (rows w)) whole j;
          left = leaves p q (b - c) c rd w (untracked s) v (before ys k) u redo (sym (ap (own p Break) whole) ∙ event);
        }
    go (s ∷ ss) [] h is = absurd h
    go [] (y ∷ ys) h is = absurd h
    go (s ∷ ss) (frame y rd w ∷ ys) h is = absurd h.0
    go (s ∷ ss) (state y ∷ ys) h is = absurd (none-some _ (sym (ap (own p Break) is) ∙ event))

goes : (code : Compiled) (p : Rules) (o : Tracked) (m n : Machine) (c b d : ℕ) (f : Forked) (q : ℕ) (rd : Round) (w : Slots) (qs : List Point) (st : Stack) (t u : Task)
    → AreClosed st → HoldsTask code p o (section m c b (parcall f q rd w qs st)) t → own p Break t ≡ Some u → stays rd (rows w) ≡ false
    → HasFailed m.roots qs n → HasCounts d b u → HoldsTask code p o (section n d b st) u
goes code p o m n c b d f q rd w qs st t u closed h event e n_failed counts =
    let g = find_broken code p o m c b f q rd w qs st t u h event in
    let k = subst (λ x. Leaves x (untracked g.forked) g.slots (before g.shown g.older) u) e g.left in (
      g.states,
      g.shown,
      g.older,
      nothing_due code m.roots qs n g.states n_failed g.points,
      g.shows,
      subst (λ roots. HoldsStack code p o roots (b - d) st g.older) (sym n_failed.roots_stay) (rest_left code p o m.roots g.rest (b - d) st g.older closed g.stack),
      with_counts d b k.0 k.1 u (before g.shown g.older) counts k.2,
    )

closes : (code : Compiled) (p : Rules) (o : Tracked) (m n : Machine) (c b d : ℕ) (f : Forked) (q : ℕ) (rd : Round) (w : Slots) (qs : List Point) (st : Stack) (t u : Task)
    → AreClosed st → MayShut (rows w) t → HoldsTask code p o (section m c b (parcall f q rd w qs st)) t → own p Break t ≡ Some u → stays rd (rows w) ≡ true
    → HasFailed m.roots [] n → HasCounts d b u → HoldsTask code p o (section n d b (parcall f q Closed w qs st)) u
closes code p o m n c b d f q rd w qs st t u closed shut h event e n_failed counts =
    let g = find_broken code p o m c b f q rd w qs st t u h event in
    let k = subst (λ x. Leaves x (untracked g.forked) g.slots (before g.shown g.older) u) e g.left in
    let goals = instance_all g.is_forked.own g.is_forked.goals in
    let hold = stands-there code p q g.forked.next goals Closed w g.slots (open-stands rd w g.slots _ (staying-round rd (rows w) e) g.hold) in
    let l : Alternatives = alternative (frame (untracked g.forked) core_round.Closed g.slots) (before g.shown g.older) in (
      [],
      [],
      l,
      nothing_due code m.roots [] n [] n_failed refl,
      tt,
      subst (λ roots. HoldsStack code p o roots (b - d) (parcall f q Closed w qs st) l) (sym n_failed.roots_stay)
          (g.forked, g.is_forked, g.slots, g.states, g.shown, g.older, g.kept, tt, g.may_shut shut, hold, g.points, g.shows, rest_left code p o m.roots g.rest (b - d) st g.older closed g.stack, refl),
      with_counts d b k.0 k.1 u l counts k.2,
    )

pub breaks_of : BreakLaw
breaks_of = record { goes = goes; closes = closes }
