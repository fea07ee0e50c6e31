-- Slots behind a redone one that has answered.
use Rattle.std.proofs.Common.{◌≡◌, ℕ, zero, suc, ◌-◌, ◌<◌, ◌⊎◌, inl, inr, Bool, true, false, ◌&&◌, ◌||◌, List, [], Some, refl, ap, sym, ◌∙◌, subst}
use Rattle.std.specs.Prelude.{length}
use Rattle.std.proofs.lemmas.Bool.{false≢true, or_right}
use Rattle.std.proofs.lemmas.Option.{none-some, same_Some}
use Rattle.ap_term.specs.Tree.{Tree, Trees, none, more}
use Rattle.ap_term.specs.Substitution.{instance_all}
use Rattle.ap_core.specs.declared.events.Kind.TheVariants as kinds
use Rattle.ap_core.specs.declared.tasks.Idle.TheVariants as idle_kind
use Rattle.ap_core.specs.declared.tasks.Round.TheVariants as core_round
use Rattle.ap_core.specs.Tasks as core
use Rattle.ap_core.specs.Tasks.{Answer, Task, task, alternative, frame, Progress, idle, stored, busy, again, redone, drained}
use Rattle.ap_core.specs.Conditions as conditions
use Rattle.ap_core.specs.Conditions.{is_again, some_is_again}
use Rattle.ap_core.specs.Relation as relation
use Rattle.ap_core.specs.Relation.{Rules, Recorded, own, each_slot, only_if}
use Rattle.ap_core.specs.Lifting.{at_end}
use Rattle.ap_frames.specs.declared.frame.Round.TheVariants.{Later, Closed}
use Rattle.ap_frames.specs.declared.slots.Stand.{Stand}
use Rattle.ap_frames.specs.declared.slots.Stand.TheVariants.{Ready, Waiting, Running, Answered, Replayed, Ended, GivenBack}
use Rattle.ap_frames.specs.declared.slots.Run.TheVariants as runs
use Rattle.ap_frames.specs.Slots.{has_answer, stands_answered, tuples_of}
use Rattle.ap_frames.specs.Rounds.{readied_stand}
use Rattle.ap_parcall_laws.specs.Alike.{HasAnswer, StandsAs}
use Rattle.ap_tracked.specs.Tracked.{Tracked, untracked}
use Rattle.ap_instr.specs.Code.{Compiled}
use Rattle.ap_standing.specs.Machine.{Point, Machine}
use Rattle.ap_group.specs.Groups.{Forked}
use Rattle.ap_tie.specs.Sections as views
use Rattle.ap_tie.specs.Sections.{Row, section, Stack, parcall, Slots, no_slot, slot, Held, nothing, rows}
use Rattle.ap_tie.specs.Settled.{HasFailed}
use Rattle.ap_tie.specs.Slots.{place_in, FitsSlot}
use Rattle.ap_tie.specs.Tied.{HoldsSlots, HoldsSource}
use Rattle.ap_tied.specs.Ties.{WasRedone, IsRedoneAt, IsRedoneIn, AreSimple, IsSimpleProgress, SlotsAreSimple, HoldsAnswer, AreQuietSlots, IsTied}
use Rattle.ap_tied.proofs.Common.{same-count}
use Rattle.ap_tied.specs.SlotCalls.{row_in, readied_behind}
use Rattle.ap_tied.proofs.Places.{nth, get-nth, SlotAt, place-row}
use Rattle.ap_tied.proofs.SlotEvents.{FirstFrame, first_failed, found, simple_parts}

-- ---- progress that stays

answered_stays : (x : Progress) → conditions.has_answer x ≡ true → relation.readied x ≡ x
answered_stays (idle i) h = absurd (false≢true h)
answered_stays (stored m) h = absurd (false≢true h)
answered_stays (busy b t) h = refl
answered_stays (core.held m a t c) h = refl
answered_stays (redone m b t i) h = refl
answered_stays (again m a t c) h = refl
answered_stays (drained m b t i e) h = refl

redone_stays : (x : Progress) → WasRedone x → relation.readied x ≡ x
redone_stays (idle i) h = absurd h
redone_stays (stored m) h = absurd h
redone_stays (busy b t) h = absurd h
redone_stays (core.held m a t c) h = absurd h
redone_stays (redone m b t i) h = refl
redone_stays (again m a t c) h = refl
redone_stays (drained m b t i e) h = absurd h

-- ---- one slot that is readied

has_readied : (t : Task) (c : ℕ) (x : Progress) → HasAnswer t c x → HasAnswer t c (relation.readied x)
has_readied t c x (m, a, inl e) = (m, a, inl (ap relation.readied e))
has_readied t c x (m, a, inr e) = (m, a, inr (ap relation.readied e))

stands_readied : (r n : ℕ) (e : Stand (Unit {0})) (x : Progress) → IsSimpleProgress x → StandsAs r e n x → StandsAs r (readied_stand e) n (relation.readied x)
stands_readied r n Ready x s h = ap relation.readied h
stands_readied r n Waiting x s (inl h) = ap relation.readied h.0
stands_readied r n Waiting x s (inr (a, rest, h, l)) = absurd (subst IsSimpleProgress h s)
stands_readied r n GivenBack x s h = ap relation.readied h
stands_readied r n (Running runs.First) x s (b, t, e, k) = (b, t, ap relation.readied e, k)
stands_readied r n (Running runs.Redone) x s (m, b, t, i, e, k) = (m, b, t, i, ap relation.readied e, k)
stands_readied r n (Running runs.Drained) x s (m, b, t, i, d, e, k) = (m, b, t, i, d, ap relation.readied e, k)
stands_readied r n (Answered a) x s (t, h, l) = (t, has_readied t a.cost x h, l)
stands_readied r n (Replayed k) x s (q, c, rest, h, l) = (q, c, rest, has_readied (_) 0 x h, l)
stands_readied r n (Ended e c) x s (inl (t, h, l)) = inl (t, ap relation.readied h, l)
stands_readied r n (Ended e c) x s (inr (inl (m, t, i, h, l))) = inr (inl (m, t, i, ap relation.readied h, l))
stands_readied r n (Ended e c) x s (inr (inr (m, t, i, d, h))) = inr (inr (m, t, i, d, ap relation.readied h))

source_readied : (code : Compiled) (p : Rules) (b : ℕ) (g : Tree) (h : Held) (x : Progress) → HoldsSource code p b g h x → HoldsSource code p b g h (relation.readied x)
source_readied code p b g nothing x s = tt
source_readied code p b g (views.held a) x (at, (m, e, t, z, c, source, comes, is_of, inl is)) = (at, (m, e, t, z, c, source, comes, is_of, inl (ap relation.readied is)))
source_readied code p b g (views.held a) x (at, (m, e, t, z, c, source, comes, is_of, inr is)) = (at, (m, e, t, z, c, source, comes, is_of, inr (ap relation.readied is)))

simple_readied : (x : Progress) → IsSimpleProgress x → IsSimpleProgress (relation.readied x)
simple_readied (idle idle_kind.Ready) s = tt
simple_readied (idle idle_kind.Waiting) s = tt
simple_readied (idle idle_kind.GivenBack) s = tt
simple_readied (stored m) s = absurd s
simple_readied (busy b t) s = s
simple_readied (core.held m a t c) s = s
simple_readied (redone m b t i) s = s
simple_readied (again m a t c) s = s
simple_readied (drained m b t i e) s = absurd s

answer_readied : (code : Compiled) (e : Stand (Unit {0})) (h : Held) → HoldsAnswer code e h → HoldsAnswer code (readied_stand e) h
answer_readied code Ready h k = k
answer_readied code Waiting h k = k
answer_readied code GivenBack h k = k
answer_readied code (Running r) h k = k
answer_readied code (Answered a) h k = k
answer_readied code (Replayed j) h k = k
answer_readied code (Ended e c) h k = k

-- ---- slots

hold_readied : (code : Compiled) (p : Rules) (q b : ℕ) (gs : Trees) (w : Slots) (v : core.Slots) → HoldsSlots code p q b gs w v → SlotsAreSimple v → HoldsSlots code p q b gs (readied_behind 0 w) (each_slot relation.readied v)
hold_readied code p q b none no_slot v h s = ap (each_slot relation.readied) h
hold_readied code p q b none (slot x j w) v h s = absurd h
hold_readied code p q b (more g gs) no_slot v h s = absurd h
hold_readied code p q b (more g gs) (slot x j w) v (k, y, u, l, rest, is) s =
    let simple = subst SlotsAreSimple is s in
    (k, relation.readied y, each_slot relation.readied u, (l.0, stands_readied q (length (tuples_of x)) x.stand y simple.1 l.1, source_readied code p b g j y l.2), hold_readied code p q b gs w u rest simple.2, ap (each_slot relation.readied) is)

-- those left of slot i have answers
hold_behind : (code : Compiled) (p : Rules) (q b : ℕ) (gs : Trees) (w : Slots) (v : core.Slots) (i : ℕ) → HoldsSlots code p q b gs w v → SlotsAreSimple v → IsRedoneAt i v
    → HoldsSlots code p q b gs (readied_behind i w) (each_slot relation.readied v)
hold_behind code p q b none no_slot v i h s d = ap (each_slot relation.readied) h
hold_behind code p q b none (slot x j w) v i h s d = absurd h
hold_behind code p q b (more g gs) no_slot v i h s d = absurd h
hold_behind code p q b (more g gs) (slot x j w) v zero (k, y, u, l, rest, is) s d = absurd (subst (IsRedoneAt 0) is d)
hold_behind code p q b (more g gs) (slot x j w) v (suc zero) (k, y, u, l, rest, is) s d =
    let simple = subst SlotsAreSimple is s in
    let stays = redone_stays y (subst (IsRedoneAt 1) is d) in
    (k, relation.readied y, each_slot relation.readied u, subst (FitsSlot code p q b g x j) (sym stays) l, hold_readied code p q b gs w u rest simple.2, ap (each_slot relation.readied) is)
hold_behind code p q b (more g gs) (slot x j w) v (suc (suc i)) (k, y, u, l, rest, is) s d =
    let simple = subst SlotsAreSimple is s in
    let redone_left = subst (IsRedoneAt (suc (suc i))) is d in
    (k, relation.readied y, each_slot relation.readied u, subst (FitsSlot code p q b g x j) (sym (answered_stays y redone_left.0)) l, hold_behind code p q b gs w u (suc i) rest simple.2 redone_left.1, ap (each_slot relation.readied) is)

simple_each : (v : core.Slots) → SlotsAreSimple v → SlotsAreSimple (each_slot relation.readied v)
simple_each core.no_slot s = tt
simple_each (core.slot g k x v) s = (s.0, simple_readied x s.1, simple_each v s.2)

redone_each : (i : ℕ) (v : core.Slots) → IsRedoneAt i v → IsRedoneAt i (each_slot relation.readied v)
redone_each i core.no_slot d = d
redone_each zero (core.slot g k x v) d = d
redone_each (suc zero) (core.slot g k x v) d = subst WasRedone (sym (redone_stays x d)) d
redone_each (suc (suc i)) (core.slot g k x v) d = (ap conditions.has_answer (answered_stays x d.0) ∙ d.0, redone_each (suc i) v d.1)

quiet_behind : (code : Compiled) (i : ℕ) (w : Slots) → AreQuietSlots code w → AreQuietSlots code (readied_behind i w)
quiet_behind code i no_slot t = tt
quiet_behind code zero (slot x h w) t = (t.0, t.1, answer_readied code x.stand h t.2, quiet_behind code zero w t.3)
quiet_behind code (suc i) (slot x h w) t = (t.0, t.1, t.2, quiet_behind code i w t.3)

pub length_behind : (i : ℕ) (w : Slots) → length (rows (readied_behind i w)) ≡ length (rows w)
length_behind i no_slot = refl
length_behind zero (slot x h w) = ap suc (length_behind zero w)
length_behind (suc i) (slot x h w) = ap suc (length_behind i w)

-- ---- the redone slot has answered

redone_place : (i : ℕ) (v : core.Slots) (g : Tree) (k : Bool) (x : Progress) → place_in i v ≡ Some (g, (k, x)) → IsRedoneAt i v → WasRedone x
redone_place i core.no_slot g k x h d = absurd d
redone_place zero (core.slot f l y v) g k x h d = absurd d
redone_place (suc zero) (core.slot f l y v) g k x h d = subst WasRedone (ap (λ (c : Tree × Recorded). c.1.1) (same_Some _ _ h)) d
redone_place (suc (suc i)) (core.slot f l y v) g k x h d = redone_place (suc i) v g k x h d.1

again_place : (i : ℕ) (v : core.Slots) (g : Tree) (k : Bool) (x : Progress) → place_in i v ≡ Some (g, (k, x)) → is_again x ≡ true → some_is_again v ≡ true
again_place i core.no_slot g k x h a = absurd (none-some _ h)
again_place zero (core.slot f l y v) g k x h a = absurd (none-some _ h)
again_place (suc zero) (core.slot f l y v) g k x h a = ap (λ j. j || some_is_again v) (ap (λ (c : Tree × Recorded). is_again c.1.1) (same_Some _ _ h) ∙ a)
again_place (suc (suc i)) (core.slot f l y v) g k x h a = or_right (is_again y) (some_is_again v) (again_place (suc i) v g k x h a)

is_again_now : (code : Compiled) (r n : ℕ) (e : Stand (Unit {0})) (h : Held) (x : Progress) → stands_answered e ≡ true → HoldsAnswer code e h → StandsAs r e n x → WasRedone x → is_again x ≡ true
is_again_now code r n Ready h x a k s d = absurd (false≢true a)
is_again_now code r n Waiting h x a k s d = absurd (false≢true a)
is_again_now code r n GivenBack h x a k s d = absurd (false≢true a)
is_again_now code r n (Running j) h x a k s d = absurd (false≢true a)
is_again_now code r n (Ended e c) h x a k s d = absurd (false≢true a)
is_again_now code r n (Replayed j) h x a k s d = absurd k
is_again_now code r n (Answered y) h x a k (t, (m, e, inl is), l) d = absurd (subst WasRedone is d)
is_again_now code r n (Answered y) h x a k (t, (m, e, inr is), l) d = ap is_again is

-- ---- the event

still_open : (i : ℕ) → Later i ≡ Closed → ⊥
still_open i h = absurd (cc)

pub restarts : (code : Compiled) (p : Rules) (o : Tracked) (m : Machine) (c b : ℕ) (f : Forked) (q i : ℕ) (w : Slots) (qs : List Point) (st : Stack) (t : Task) (x : Row)
    → IsTied code p o (section m c b (parcall f q (Later i) w qs st)) t → 0 < i → row_in i w ≡ Some x → has_answer x ≡ true
    → (u : Task) × (at_end p kinds.Restart [] t ≡ Some u) × IsTied code p o (section m c b (parcall f q (Later i) (readied_behind i w) qs st)) u
restarts code p o m c b f q i w qs st t x tied place row answered = (
  u,
  happens,
  record {
    holds = first.others (readied_behind i w) (each_slot relation.readied first.slots) (hold_behind code p q first.forked.next (instance_all first.is_forked.own first.is_forked.goals) w first.slots i first.hold simple.0 was_redone) tt;
    simple = (simple_each first.slots simple.0, simple.1);
    quiet = (tied.quiet.0, same-count (Later i) _ _ _ (length_behind i w) tied.quiet.1, tied.quiet.2, quiet_behind code i w tied.quiet.3, tied.quiet.4);
    in_order = tied.in_order;
    in_round = redone_each i first.slots was_redone;
  },
)
  where
    failed_from : ((Later i ≡ Closed) ⊎ HasFailed m.roots [] m) → HasFailed m.roots [] m
    failed_from (inl h) = absurd (still_open i h)
    failed_from (inr h) = h

    first : FirstFrame code p o m c b f q (Later i) w qs st t
    first = first_failed code p o m c b f q (Later i) w qs st t tied.holds (failed_from tied.in_order.0) (λ d e. still_open i d)

    simple : SlotsAreSimple first.slots × AreSimple first.behind
    simple = simple_parts code p o m c b f q (Later i) w qs st t tied first

    was_redone : IsRedoneAt i first.slots
    was_redone = subst (IsRedoneIn i) first.is tied.in_round

    row_at : nth i (rows w) ≡ Some x
    row_at = sym (get-nth i (rows w) place) ∙ row

    at : SlotAt code p q first.forked.next (instance_all first.is_forked.own first.is_forked.goals) w first.slots i
    at = found code p o m c b f q (Later i) w qs st t tied first i (place-row code p q first.forked.next (instance_all first.is_forked.own first.is_forked.goals) w first.slots i x first.hold row_at)

    some_again : some_is_again first.slots ≡ true
    some_again =
        again_place i first.slots at.goal false at.progress at.place_at
        (is_again_now code q (length (tuples_of at.row)) at.row.stand at.hold at.progress (ap has_answer (same_Some _ _ (sym at.row_at ∙ row_at)) ∙ answered) at.quiet at.fits.1 (redone_place i first.slots at.goal false at.progress at.place_at was_redone))

    u : Task
    u = task (b - c) c (alternative (frame (untracked first.forked) core_round.Later (each_slot relation.readied first.slots)) first.behind)

    happens : own p kinds.Restart t ≡ Some u
    happens = ap (own p kinds.Restart) first.is ∙ ap (λ j. only_if (true && j) u) some_again
