-- A slot of a closed frame that is redone, and the section that goes on in it.
use Rattle.std.proofs.Common.{◌≡◌, ℕ, zero, suc, ◌+◌, ◌-◌, ◌<◌, ◌⊎◌, inl, inr, Bool, true, false, ◌&&◌, if◌then◌else◌, List, [], ◌∷◌, ◌++◌, Option, Some, None, refl, ap, ap₂, sym, ◌∙◌, subst, arith}
use Rattle.std.specs.Prelude.{length, take, is_some, option_and_then}
use Rattle.std.specs.List.{list_all}
use Rattle.std.specs.Cmp.{nat_cmp_is}
use Rattle.std.specs.Ordering.{nat_cmp}
use Rattle.std.specs.declared.cmp.Ordering.{Ordering}
use Rattle.std.specs.declared.cmp.Ordering.TheVariants.{Less, Equal, Greater}
use Rattle.std.proofs.lemmas.Bool.{false≢true, and_parts}
use Rattle.std.proofs.lemmas.Option.{none-some, same_Some}
use Rattle.ap_term.specs.Tree.{Tree, Trees, none, more}
use Rattle.ap_term.specs.Substitution.{instance_all}
use Rattle.ap_core.specs.declared.events.Kind.TheVariants as kinds
use Rattle.ap_core.specs.declared.tasks.Busy.TheVariants as busy_kind
use Rattle.ap_core.specs.declared.tasks.Round.TheVariants as core_round
use Rattle.ap_core.specs.Tasks as core
use Rattle.ap_core.specs.Tasks.{Answer, Task, task, Alternatives, alternative, Alternative, frame, Progress, idle, stored, busy, again, redone, drained}
use Rattle.ap_core.specs.Conditions as conditions
use Rattle.ap_core.specs.Conditions.{some_has_more, spent_by}
use Rattle.ap_core.specs.Relation.{Rules, Recorded, own, answer, redo_from, restarted_with, all_put_away, put_away, kept, given, mapped}
use Rattle.ap_core.specs.Lifting.{running_of, running_task, at_end}
use Rattle.ap_core.proofs.Options.{Some-only_if}
use Rattle.ap_frames.specs.declared.frame.Round.TheVariants.{Later, Closed}
use Rattle.ap_frames.specs.declared.slots.Stand.{Stand}
use Rattle.ap_frames.specs.declared.slots.Stand.TheVariants.{Ready, Waiting, Running, Answered, Replayed, Ended, GivenBack}
use Rattle.ap_frames.specs.declared.slots.Run.TheVariants as runs
use Rattle.ap_frames.specs.Slots.{has_answer, has_more, more_at, tuples_of}
use Rattle.ap_frames.specs.Rows.{at_place, standing}
use Rattle.ap_frames.specs.Rounds.{numbered, reset, reset_by, without_cost}
use Rattle.ap_frames.specs.Verdicts.{next_redo, place_behind}
use Rattle.ap_parcall_laws.proofs.Rows.{more-alike}
use Rattle.ap_parcall_laws.proofs.Same as alike_slots
use Rattle.ap_parcall_laws.proofs.Redone.{redo-from-one}
use Rattle.ap_tracked.specs.Tracked.{Tracked, untracked}
use Rattle.ap_tracked.specs.Forks.{alone}
use Rattle.ap_instr.specs.Code.{Compiled}
use Rattle.ap_standing.specs.Machine.{Point, failed, Machine}
use Rattle.ap_group.specs.Groups.{Forked}
use Rattle.ap_tie.specs.Sections as views
use Rattle.ap_tie.specs.Sections.{Row, Section, section, Stack, bottom, parcall, Slots, no_slot, slot, Held, nothing, machine_in, rows}
use Rattle.ap_tie.specs.Shows.{before}
use Rattle.ap_tie.specs.Open.{origin_of}
use Rattle.ap_tie.specs.Redone.{keeping, taken}
use Rattle.ap_tie.specs.Settled.{HasFailed, AreClosed}
use Rattle.ap_tie.specs.Slots.{place_in}
use Rattle.ap_tie.specs.Tied.{IsAtAnswer, HoldsTask, HoldsSlots, HoldsSource}
use Rattle.ap_tie.proofs.Answered.{alike}
use Rattle.ap_tie.proofs.Redone.{redo_section}
use Rattle.ap_tie.proofs.Settled.{rest_left}
use Rattle.ap_tied.specs.Ties.{IsCount, WasRedone, IsRedoneAt, IsRedoneIn, IsSimple, AreSimple, IsSimpleProgress, SlotsAreSimple, HoldsAnswer, AreQuietSlots, IsQuiet, stack_in, IsSearched, IsTied}
use Rattle.ap_tied.specs.SlotCalls.{held_in, since, since_of, gone_on, RunsSlot}
use Rattle.ap_tied.proofs.Common.{closed_in_order, closed_in_round}
use Rattle.ap_tied.proofs.Places.{SlotAt, running-place, origin-place, since-place}
use Rattle.ap_tied.proofs.SlotEvents.{FirstFrame, first_failed, found, simple_parts}
use Rattle.ap_tied.proofs.Resting.{resting}
use Rattle.ap_tied.proofs.SlotAnswers.{simple_whole}
use Rattle.ap_tied.proofs.SlotGoals.{goal_searched}

-- ---- the slot that is redone next

-- slot i has more, no slot behind it has, and those left of it have answers
abbrev IsNextRedo : ℕ → core.Slots → Type 0
IsNextRedo i core.no_slot = ⊥
IsNextRedo zero (core.slot g k x w) = ⊥
IsNextRedo (suc zero) (core.slot g k x w) = (some_has_more w ≡ false) × (conditions.has_more x ≡ true)
IsNextRedo (suc (suc i)) (core.slot g k x w) = (some_has_more w ≡ true) × (conditions.has_answer x ≡ true) × IsNextRedo (suc i) w

next_redone : (code : Compiled) (p : Rules) (q b : ℕ) (gs : Trees) (w : Slots) (v : core.Slots) (i : ℕ) → HoldsSlots code p q b gs w v → next_redo (rows w) ≡ Some i → list_all has_answer (take (i - 1) (rows w)) ≡ true → IsNextRedo i v
next_redone code p q b none no_slot v i h e a = absurd (none-some _ e)
next_redone code p q b none (slot x n w) v i h e a = absurd h
next_redone code p q b (more g gs) no_slot v i h e a = absurd h
next_redone code p q b (more g gs) (slot x n w) v i (k, y, u, l, rest, is) e a =
    subst (IsNextRedo i) (sym is) (go (next_redo (rows w)) (has_more x) refl refl (λ j f c. next_redone code p q b gs w u j rest f c))
  where
    redoes : some_has_more u ≡ is_some (next_redo (rows w))
    redoes = more-alike p.loud q (rows w) u (alike code p q b gs w u rest)

    go : (o : Option ℕ) (c : Bool) → next_redo (rows w) ≡ o → has_more x ≡ c → ((j : ℕ) → next_redo (rows w) ≡ Some j → list_all has_answer (take (j - 1) (rows w)) ≡ true → IsNextRedo j u) → IsNextRedo i (core.slot g k y u)
    go (Some zero) c f d next = absurd (let e0 : 0 < 0 = redo-from-one (rows w) 0 f in omega (arith, e0))
    go (Some (suc j)) c f d next =
        let place : suc j + 1 ≡ i = same_Some _ _ (sym (ap₂ place_behind f d) ∙ e) in
        let is_place : i ≡ suc (suc j) = omega (arith, place) in
        let left : i - 1 ≡ suc j = omega (arith, place) in
        let inner : suc j - 1 ≡ j = omega arith in
        let parts = and_parts (has_answer x) (list_all has_answer (take j (rows w))) (sym (ap (λ m. list_all has_answer (take m (rows (slot x n w)))) left) ∙ a) in
        subst (λ m. IsNextRedo m (core.slot g k y u)) (sym is_place)
        (redoes ∙ ap is_some f, (alike_slots.same q x.stand (_) y l.1).answer ∙ parts.0, next (suc j) f (ap (λ m. list_all has_answer (take m (rows w))) inner ∙ parts.1))
    go None true f d next =
        let place : 1 ≡ i = same_Some _ _ (sym (ap₂ place_behind f d) ∙ e) in
        subst (λ m. IsNextRedo m (core.slot g k y u)) place (redoes ∙ ap is_some f, (alike_slots.same q x.stand (_) y l.1).more ∙ d)
    go None false f d next = absurd (none-some _ (sym (ap₂ place_behind f d) ∙ e))

next_place : (i : ℕ) (v : core.Slots) → IsNextRedo i v → place_in i v ≡ None → ⊥
next_place i core.no_slot h n = absurd h
next_place zero (core.slot g k x v) h n = absurd h
next_place (suc zero) (core.slot g k x v) h n = none-some _ (sym n)
next_place (suc (suc i)) (core.slot g k x v) h n = next_place (suc i) v h.2 n

next_more : (i : ℕ) (v : core.Slots) (g : Tree) (k : Bool) (x : Progress) → IsNextRedo i v → place_in i v ≡ Some (g, (k, x)) → conditions.has_more x ≡ true
next_more i core.no_slot g k x h n = absurd h
next_more zero (core.slot f l y v) g k x h n = absurd h
next_more (suc zero) (core.slot f l y v) g k x h n = ap (λ (c : Tree × Recorded). conditions.has_more c.1.1) (sym (same_Some _ _ n)) ∙ h.1
next_more (suc (suc i)) (core.slot f l y v) g k x h n = next_more (suc i) v g k x h.2 n

-- it goes on
redone_place : (r i : ℕ) (v : core.Slots) (g : Tree) (k : Bool) (x : Progress) → IsNextRedo i v → place_in i v ≡ Some (g, (k, x)) → place_in i (redo_from r v) ≡ Some (g, (k, restarted_with r x))
redone_place r i core.no_slot g k x h n = absurd h
redone_place r zero (core.slot f l y v) g k x h n = absurd h
redone_place r (suc zero) (core.slot f l y v) g k x h n =
    ap (λ c. place_in 1 (if c then core.slot f l (kept y) (redo_from r v) else core.slot f l (restarted_with r y) (all_put_away v))) h.0 ∙ ap (λ (c : Tree × Recorded). Some (c.0, (c.1.0, restarted_with r c.1.1))) (same_Some _ _ n)
redone_place r (suc (suc i)) (core.slot f l y v) g k x h n =
    ap (λ c. place_in (suc (suc i)) (if c then core.slot f l (kept y) (redo_from r v) else core.slot f l (restarted_with r y) (all_put_away v))) h.0 ∙ redone_place r (suc i) v g k x h.2 n

kept_answered : (x : Progress) → conditions.has_answer x ≡ true → conditions.has_answer (kept x) ≡ true
kept_answered (idle i) h = h
kept_answered (stored m) h = h
kept_answered (busy b t) h = h
kept_answered (core.held m a t c) h = refl
kept_answered (redone m b t i) h = h
kept_answered (again m a t c) h = refl
kept_answered (drained m b t i e) h = h

restarted_redone : (r : ℕ) (x : Progress) → conditions.has_more x ≡ true → WasRedone (restarted_with r x)
restarted_redone r (idle i) h = absurd (false≢true h)
restarted_redone r (stored m) h = absurd (false≢true h)
restarted_redone r (busy b t) h = absurd (false≢true h)
restarted_redone r (core.held m a t c) h = tt
restarted_redone r (redone m b t i) h = absurd (false≢true h)
restarted_redone r (again m a t c) h = tt
restarted_redone r (drained m b t i e) h = absurd (false≢true h)

redone_now : (r i : ℕ) (v : core.Slots) → IsNextRedo i v → IsRedoneAt i (redo_from r v)
redone_now r i core.no_slot h = absurd h
redone_now r zero (core.slot g k x v) h = absurd h
redone_now r (suc zero) (core.slot g k x v) h =
    subst (λ c. IsRedoneAt 1 (if c then core.slot g k (kept x) (redo_from r v) else core.slot g k (restarted_with r x) (all_put_away v))) (sym h.0) (restarted_redone r x h.1)
redone_now r (suc (suc i)) (core.slot g k x v) h =
    subst (λ c. IsRedoneAt (suc (suc i)) (if c then core.slot g k (kept x) (redo_from r v) else core.slot g k (restarted_with r x) (all_put_away v))) (sym h.0) (kept_answered x h.1, redone_now r (suc i) v h.2)

-- ---- slots stay simple

simple_kept : (x : Progress) → IsSimpleProgress x → IsSimpleProgress (kept x)
simple_kept (idle i) s = s
simple_kept (stored m) s = s
simple_kept (busy b t) s = s
simple_kept (core.held m a t c) s = s
simple_kept (redone m b t i) s = s
simple_kept (again m a t c) s = s
simple_kept (drained m b t i e) s = s

simple_restarted : (r : ℕ) (x : Progress) → IsSimpleProgress x → IsSimpleProgress (restarted_with r x)
simple_restarted r (idle i) s = s
simple_restarted r (stored m) s = s
simple_restarted r (busy b t) s = s
simple_restarted r (core.held m a t c) s = tt
simple_restarted r (redone m b t i) s = s
simple_restarted r (again m a t c) s = tt
simple_restarted r (drained m b t i e) s = s

simple_away : (x : Progress) → IsSimpleProgress x → IsSimpleProgress (put_away false x)
simple_away (idle i) s = tt
simple_away (stored m) s = absurd s
simple_away (busy b t) s = tt
simple_away (core.held m a t c) s = tt
simple_away (redone m b t i) s = tt
simple_away (again m a t c) s = tt
simple_away (drained m b t i e) s = tt

simple_all_away : (v : core.Slots) → SlotsAreSimple v → SlotsAreSimple (all_put_away v)
simple_all_away core.no_slot s = tt
simple_all_away (core.slot g k x v) s = (s.0, subst (λ c. IsSimpleProgress (put_away c x)) (sym s.0) (simple_away x s.1), simple_all_away v s.2)

simple_if : (c : Bool) (v w : core.Slots) → SlotsAreSimple v → SlotsAreSimple w → SlotsAreSimple (if c then v else w)
simple_if true v w s t = s
simple_if false v w s t = t

simple_redone : (r : ℕ) (v : core.Slots) → SlotsAreSimple v → SlotsAreSimple (redo_from r v)
simple_redone r core.no_slot s = tt
simple_redone r (core.slot g k x v) s =
    simple_if (some_has_more v) (core.slot g k (kept x) (redo_from r v)) (core.slot g k (restarted_with r x) (all_put_away v)) (s.0, simple_kept x s.1, simple_redone r v s.2) (s.0, simple_restarted r x s.1, simple_all_away v s.2)

-- ---- and quiet

cost_answer : (code : Compiled) (e : Stand (Unit {0})) (h : Held) → HoldsAnswer code e h → HoldsAnswer code (without_cost e) h
cost_answer code Ready h k = k
cost_answer code Waiting h k = k
cost_answer code GivenBack h k = k
cost_answer code (Running r) h k = k
cost_answer code (Answered a) nothing k = k
cost_answer code (Answered a) (views.held s) k = k
cost_answer code (Replayed j) h k = k
cost_answer code (Ended e c) h k = k

-- what is told of the slot whatever its number is
abbrev IsPlainRow : Row → Type 0
IsPlainRow x = (x.is_loud ≡ false) × (x.tuples ≡ None)

plain_reset : (o : Ordering) (x : Row) → IsPlainRow x → IsPlainRow (reset o x)
plain_reset Less x h = h
plain_reset Equal x h = h
plain_reset Greater x h = h

quiet_right : (code : Compiled) (i n : ℕ) (w : Slots) → i < n → AreQuietSlots code w → AreQuietSlots code (keeping 0 (numbered (reset_by i) n (rows w)) w)
quiet_right code i n no_slot l t = tt
quiet_right code i n (slot x h w) l t =
    let row = plain_reset (nat_cmp n i) x (t.0, t.1) in
    (row.0, row.1, subst (λ o. HoldsAnswer code (reset o x).stand nothing) (nat_cmp_is n i Greater l) refl, quiet_right code i (n + 1) w (omega (arith, l)) t.3)

quiet_taken : (code : Compiled) (i n j : ℕ) (w : Slots) → n + j ≡ i → AreQuietSlots code w → AreQuietSlots code (keeping j (at_place (standing (Running runs.Redone)) j (numbered (reset_by i) n (rows w))) w)
quiet_taken code i n j no_slot l t = tt
quiet_taken code i n zero (slot x h w) l t =
    let row = plain_reset (nat_cmp n i) x (t.0, t.1) in
    (row.0, row.1, refl, quiet_right code i (n + 1) w (omega (arith, l)) t.3)
quiet_taken code i n (suc j) (slot x h w) l t =
    let row = plain_reset (nat_cmp n i) x (t.0, t.1) in
    let before : n < i = omega (arith, l) in
    (row.0, row.1, subst (λ o. HoldsAnswer code (reset o x).stand h) (nat_cmp_is n i Less before) (cost_answer code x.stand h t.2), quiet_taken code i (n + 1) j w (omega (arith, l)) t.3)

length_right : (i n : ℕ) (w : Slots) → length (rows (keeping 0 (numbered (reset_by i) n (rows w)) w)) ≡ length (rows w)
length_right i n no_slot = refl
length_right i n (slot x h w) = ap suc (length_right i (n + 1) w)

length_taken : (i n j : ℕ) (w : Slots) → length (rows (keeping j (at_place (standing (Running runs.Redone)) j (numbered (reset_by i) n (rows w))) w)) ≡ length (rows w)
length_taken i n j no_slot = refl
length_taken i n zero (slot x h w) = ap suc (length_right i (n + 1) w)
length_taken i n (suc j) (slot x h w) = ap suc (length_taken i (n + 1) j w)

redo-count : (i n : ℕ) (w : Slots) → next_redo (rows w) ≡ Some i → IsCount Closed (length (rows w)) n → length (rows w) ≡ n
redo-count i n no_slot e h = absurd (none-some _ e)
redo-count i n (slot x h w) e (inl d) = d
redo-count i n (slot x h w) e (inr d) = absurd (let z : suc (length (rows w)) ≡ 0 = d.1 in cc)

-- ---- the section that the slot holds

record AtAnswer (code : Compiled) (p : Rules) (b : ℕ) (g : Tree) (h : Held) (x : Progress) : Type 0 where
  inner : Section
  is_held : h ≡ views.held inner
  quiet : IsQuiet code inner
  closed : AreClosed (stack_in inner)
  is_at : IsAtAnswer (machine_in inner)
  earlier : List Answer
  found_answer : Answer
  left : Task
  whole : Task
  cost : ℕ
  source : HoldsTask code p (alone g b) inner whole
  comes : answer whole ≡ Some (found_answer, left)
  simple : IsSimple left
  is : (x ≡ core.held earlier found_answer left cost) ⊎ (x ≡ again earlier found_answer left cost)

at_answer : (code : Compiled) (p : Rules) (b n : ℕ) (g : Tree) (e : Stand (Unit {0})) (h : Held) (x : Progress) → more_at n e ≡ true → HoldsAnswer code e h → HoldsSource code p b g h x → IsSimpleProgress x → AtAnswer code p b g h x
at_answer code p b n g Ready h x a k s m = absurd (false≢true a)
at_answer code p b n g Waiting h x a k s m = absurd (false≢true a)
at_answer code p b n g GivenBack h x a k s m = absurd (false≢true a)
at_answer code p b n g (Running j) h x a k s m = absurd (false≢true a)
at_answer code p b n g (Ended e c) h x a k s m = absurd (false≢true a)
at_answer code p b n g (Replayed j) h x a k s m = absurd k
at_answer code p b n g (Answered y) nothing x a k s m = absurd (false≢true (sym k.1 ∙ a))
at_answer code p b n g (Answered y) (views.held u) x a k (is_at, (l, e, t, z, c, source, comes, is_of, is)) m = record {
  inner = u;
  is_held = refl;
  quiet = k.1;
  closed = k.2;
  is_at = is_at;
  earlier = l;
  found_answer = e;
  left = t;
  whole = z;
  cost = c;
  source = source;
  comes = comes;
  simple = simple is;
  is = is;
}
  where
    simple : (x ≡ core.held l e t c) ⊎ (x ≡ again l e t c) → IsSimple t
    simple (inl d) = subst IsSimpleProgress d m
    simple (inr d) = subst IsSimpleProgress d m

restarted_is : (r : ℕ) (x : Progress) (l : List Answer) (e : Answer) (t : Task) (c : ℕ) → (x ≡ core.held l e t c) ⊎ (x ≡ again l e t c) → restarted_with r x ≡ redone (l ++ e ∷ []) busy_kind.Running (given r t) (spent_by t)
restarted_is r x l e t c (inl d) = ap (restarted_with r) d
restarted_is r x l e t c (inr d) = ap (restarted_with r) d

-- ---- it goes on

given_spent : (r : ℕ) (t : Task) → spent_by (given r t) ≡ spent_by t
given_spent r (task q c l) = refl

given_simple : (r : ℕ) (t : Task) → IsSimple t → IsSimple (given r t)
given_simple r (task q c l) s = s

-- where all frames are closed any rest is left
with_rest : (code : Compiled) (p : Rules) (o : Tracked) (m : Machine) (c b r : ℕ) (st : Stack) (t : Task) → AreClosed st → IsTied code p o (section m c b st) t → IsTied code p o (section m c (c + r) st) (given r t)
with_rest code p o m c b r st t closed tied = record {
  holds = held_with tied.holds;
  simple = given_simple r t tied.simple;
  quiet = tied.quiet;
  in_order = closed_in_order m c (c + r) st closed;
  in_round = closed_in_round m c (c + r) st (given r t) closed;
}
  where
    held_with : HoldsTask code p o (section m c b st) t → HoldsTask code p o (section m c (c + r) st) (given r t)
    held_with (ss, xs, l, holds, shown, stack, is) =
        let rest : (c + r) - c ≡ r = omega arith in
        (ss, xs, l, holds, shown, rest_left code p o m.roots (b - c) ((c + r) - c) st l closed stack, ap (given r) is ∙ ap (λ j. task j c (before xs l)) (sym rest))

goes_on : (code : Compiled) (p : Rules) (o : Tracked) (a : Section) (z t : Task) (y : Answer) (r : ℕ) → IsSearched code p o → HoldsTask code p o a z → answer z ≡ Some (y, t) → IsSimple t → IsQuiet code a → AreClosed (stack_in a)
    → IsAtAnswer (machine_in a) → IsTied code p o (gone_on r a) (given r t)
goes_on code p o (section m c b st) z t y r searched h comes simple quiet closed is_at =
    let tied : IsTied code p o (section m c b st) z =
    record { holds = h; simple = simple_whole z y t comes simple; quiet = quiet; in_order = closed_in_order m c b st closed; in_round = closed_in_round m c b st z closed } in
    let k = resting.answered code p o m c b st z searched tied is_at in
    let left : k.1 ≡ t = ap (λ (x : Answer × Task). x.1) (same_Some _ _ (sym k.2 ∙ comes)) in
    with_rest code p o (record m { now = failed }) c b r st t closed (subst (IsTied code p o (section (record m { now = failed }) c b st)) left k.4)

-- ---- the event

pub redoes : (code : Compiled) (p : Rules) (o : Tracked) (m : Machine) (c b : ℕ) (f : Forked) (q : ℕ) (w : Slots) (qs : List Point) (st : Stack) (t : Task) (i : ℕ)
    → IsSearched code p o → IsTied code p o (section m c b (parcall f q Closed w qs st)) t → HasFailed m.roots [] m → next_redo (rows w) ≡ Some i
    → (u : Task) × (at_end p kinds.Redo [] t ≡ Some u) × IsTied code p o (section m c b (parcall f (b - c) (Later i) (taken i (b - c) q w) qs st)) u
    × ((a : Section) × (held_in i w ≡ views.held a) × (n : Tracked) × (d : ℕ) × (z : Task) × IsSearched code p n × RunsSlot i u n d z × (spent_by z ≡ d) × IsTied code p n (gone_on (b - c) a) z)
redoes code p o m c b f q w qs st t i searched tied failed_now next = (
  event.0,
  event.1,
  record {
    holds = event.2;
    simple = subst IsSimple shape (simple_redone r first.slots simple.0, simple.1);
    quiet = (tied.quiet.0, inl (length_taken i 1 (i - 1) w ∙ redo-count i _ w next tied.quiet.1), tt, quiet_taken code i 1 (i - 1) w from_one tied.quiet.3, tied.quiet.4);
    in_order = (inr failed_now, tied.in_order.1);
    in_round = subst (IsRedoneIn i) shape (redone_now r i first.slots is_next);
  },
  (
    held_there.inner,
    at.held_at ∙ held_there.is_held,
    alone at.goal first.forked.next,
    spent_by held_there.left,
    given r held_there.left,
    goal_is_searched,
    record {
      runs = sym (ap (running_task i) shape) ∙ running-place i (redo_from r first.slots) ∙ ap (option_and_then (λ (z : Tree × Recorded). running_of z.1.1)) placed;
      origin = sym (ap (origin_of i) shape) ∙ origin-place i first.forked.next (redo_from r first.slots) ∙ ap (mapped (λ (z : Tree × Recorded). alone z.0 first.forked.next)) placed;
      before = sym (ap (since i) shape) ∙ since-place i (redo_from r first.slots) ∙ ap (option_and_then (λ (z : Tree × Recorded). since_of z.1.1)) placed;
    },
    given_spent r held_there.left,
    goes_on code p (alone at.goal first.forked.next) held_there.inner held_there.whole held_there.left held_there.found_answer r goal_is_searched held_there.source held_there.comes held_there.simple held_there.quiet held_there.closed held_there.is_at,
  ),
)
  where
    r : ℕ
    r = b - c

    first : FirstFrame code p o m c b f q Closed w qs st t
    first = first_failed code p o m c b f q Closed w qs st t tied.holds failed_now (λ d e. none-some _ (sym (ap (λ z. next_redo (rows z)) e) ∙ next))

    simple : SlotsAreSimple first.slots × AreSimple first.behind
    simple = simple_parts code p o m c b f q Closed w qs st t tied first

    is_next : IsNextRedo i first.slots
    is_next = next_redone code p q first.forked.next (instance_all first.is_forked.own first.is_forked.goals) w first.slots i first.hold next (first.shut i next).0

    at : SlotAt code p q first.forked.next (instance_all first.is_forked.own first.is_forked.goals) w first.slots i
    at = found code p o m c b f q Closed w qs st t tied first i (next_place i first.slots is_next)

    goal_is_searched : IsSearched code p (alone at.goal first.forked.next)
    goal_is_searched = goal_searched code p o m.roots f first.forked first.is_forked first.kept searched i at.goal at.goal_at

    has_more_now : conditions.has_more at.progress ≡ true
    has_more_now = next_more i first.slots at.goal false at.progress is_next at.place_at

    held_there : AtAnswer code p first.forked.next at.goal at.hold at.progress
    held_there = at_answer code p first.forked.next (length (tuples_of at.row)) at.goal at.row.stand at.hold at.progress (sym (alike_slots.same q at.row.stand (_) at.progress at.fits.1).more ∙ has_more_now) at.quiet at.fits.2 at.simple

    placed : place_in i (redo_from r first.slots) ≡ Some (at.goal, (false, redone (held_there.earlier ++ held_there.found_answer ∷ []) busy_kind.Running (given r held_there.left) (spent_by held_there.left)))
    placed = redone_place r i first.slots at.goal false at.progress is_next at.place_at ∙ ap (λ x. Some (at.goal, (false, x))) (restarted_is r at.progress held_there.earlier held_there.found_answer held_there.left held_there.cost held_there.is)

    from_one : 1 + (i - 1) ≡ i
    from_one = let e : 0 < i = redo-from-one (rows w) i next in omega (arith, e)

    event : (u : Task) × (own p kinds.Redo t ≡ Some u) × HoldsTask code p o (section m c b (parcall f r (Later i) (taken i r q w) qs st)) u
    event = redo_section code p o m c b f q w qs st t i failed_now tied.holds next

    shape : task r c (alternative (frame (untracked first.forked) core_round.Later (redo_from r first.slots)) first.behind) ≡ event.0
    shape = (Some-only_if (true && some_has_more first.slots) (task r c (alternative (frame (untracked first.forked) core_round.Later (redo_from r first.slots)) first.behind)) event.0 (sym (ap (own p kinds.Redo) first.is) ∙ event.1)).1
