-- Slots that give their sections away, as they have no other answer, stand for the same.
use Rattle.std.proofs.Common.{◌≡◌, ◌∙◌, ℕ, zero, suc, ◌-◌, inr, Bool, true, false, ◌&&◌, is_some, List, [], length, take, None, refl, ap, ap₂, sym}
use Rattle.std.proofs.lemmas.Option.{none-some}
use Rattle.std.specs.List.{list_all}
use Rattle.ap_term.specs.Tree.{Tree, Trees, none, more}
use Rattle.ap_term.specs.Substitution.{instance_all}
use Rattle.ap_core.specs.Tasks as core
use Rattle.ap_core.specs.Tasks.{Task, Progress}
use Rattle.ap_core.specs.Conditions.{some_has_more}
use Rattle.ap_core.specs.Relation.{Rules}
use Rattle.ap_frames.specs.declared.frame.Round.TheVariants.{Closed}
use Rattle.ap_frames.specs.declared.slots.Answer.{Answer as Noted}
use Rattle.ap_frames.specs.declared.slots.Stand.{Stand}
use Rattle.ap_frames.specs.declared.slots.Stand.TheVariants.{Ready, Waiting, Running, Answered, Replayed, Ended, GivenBack}
use Rattle.ap_frames.specs.Slots.{stands_answered, has_answer, more_at, has_more, tuples_of}
use Rattle.ap_frames.specs.Verdicts.{place_behind, next_redo}
use Rattle.ap_parcall_laws.specs.Alike.{StandsAs, AreStored, AreStoredBehind}
use Rattle.ap_tracked.specs.Tracked.{Tracked}
use Rattle.ap_instr.specs.Code.{Compiled}
use Rattle.ap_group.specs.Groups.{Forked}
use Rattle.ap_standing.specs.Machine.{Point, Machine}
use Rattle.ap_tie.specs.Sections.{section, Stack, parcall, Slots, no_slot, slot, Held, nothing, held, rows}
use Rattle.ap_tie.specs.Tied.{IsShutIn, UnlessCleared, HoldsTask, HoldsSlots, HoldsSource}
use Rattle.ap_tie.proofs.Cleared.{stands-there, more-left}
use Rattle.ap_tied.specs.Ties.{HoldsAnswer, AreQuietSlots, Goes}
use Rattle.ap_tied.proofs.Common.{same-count}
use Rattle.ap_tied.specs.Emptied.{left_of, emptied_stand, hold_of, hold_by, emptied_behind}

-- ---- one slot

answered-emptied : (e : Stand (Unit {0})) → stands_answered (emptied_stand e) ≡ stands_answered e
answered-emptied Ready = refl
answered-emptied Waiting = refl
answered-emptied (Running r) = refl
answered-emptied (Answered a) = refl
answered-emptied (Replayed k) = refl
answered-emptied (Ended e c) = refl
answered-emptied GivenBack = refl

more-emptied : (n : ℕ) (e : Stand (Unit {0})) → more_at n (emptied_stand e) ≡ more_at n e
more-emptied n Ready = refl
more-emptied n Waiting = refl
more-emptied n (Running r) = refl
more-emptied n (Answered a) = refl
more-emptied n (Replayed k) = refl
more-emptied n (Ended e c) = refl
more-emptied n GivenBack = refl

stands-emptied : (r n : ℕ) (e : Stand (Unit {0})) (y : Progress) → StandsAs r e n y → StandsAs r (emptied_stand e) n y
stands-emptied r n Ready y h = h
stands-emptied r n Waiting y h = h
stands-emptied r n (Running j) y h = h
stands-emptied r n (Answered a) y h = h
stands-emptied r n (Replayed k) y h = h
stands-emptied r n (Ended e c) y h = h
stands-emptied r n GivenBack y h = h

source-of : (code : Compiled) (p : Rules) (b : ℕ) (g : Tree) (m : Bool) (h : Held) (y : Progress) → HoldsSource code p b g h y → HoldsSource code p b g (hold_of m h) y
source-of code p b g true h y k = k
source-of code p b g false h y k = tt

source-emptied : (code : Compiled) (p : Rules) (b : ℕ) (g : Tree) (e : Stand (Unit {0})) (h : Held) (y : Progress) → HoldsSource code p b g h y → HoldsSource code p b g (hold_by e h) y
source-emptied code p b g Ready h y k = k
source-emptied code p b g Waiting h y k = k
source-emptied code p b g (Running j) h y k = k
source-emptied code p b g (Answered a) h y k = source-of code p b g a.has_more h y k
source-emptied code p b g (Replayed j) h y k = k
source-emptied code p b g (Ended e c) h y k = k
source-emptied code p b g GivenBack h y k = k

answer-of : (code : Compiled) (a : Noted (Unit {0})) (m : Bool) (h : Held) → a.has_more ≡ m → HoldsAnswer code (Answered a) h
    → HoldsAnswer code (Answered (record { section = left_of m a.section; cost = a.cost; has_more = a.has_more })) (hold_of m h)
answer-of code a true nothing e k = k
answer-of code a true (held s) e k = k
answer-of code a false h e k = (refl, e)

answer-emptied : (code : Compiled) (e : Stand (Unit {0})) (h : Held) → HoldsAnswer code e h → HoldsAnswer code (emptied_stand e) (hold_by e h)
answer-emptied code Ready h k = k
answer-emptied code Waiting h k = k
answer-emptied code (Running r) h k = k
answer-emptied code (Answered a) h k = answer-of code a a.has_more h refl k
answer-emptied code (Replayed j) h k = absurd k
answer-emptied code (Ended e c) h k = k
answer-emptied code GivenBack h k = k

-- ---- slots

pub length-emptied : (i : ℕ) (w : Slots) → length (rows (emptied_behind i w)) ≡ length (rows w)
length-emptied i no_slot = refl
length-emptied zero (slot x h w) = ap suc (length-emptied zero w)
length-emptied (suc i) (slot x h w) = ap suc (length-emptied i w)

redo-emptied : (i : ℕ) (w : Slots) → next_redo (rows (emptied_behind i w)) ≡ next_redo (rows w)
redo-emptied i no_slot = refl
redo-emptied zero (slot x h w) = ap₂ place_behind (redo-emptied zero w) (more-emptied (length (tuples_of x)) x.stand)
redo-emptied (suc i) (slot x h w) = ap (λ o. place_behind o (has_more x)) (redo-emptied i w)

all-emptied : (i k : ℕ) (w : Slots) → list_all has_answer (take k (rows (emptied_behind i w))) ≡ list_all has_answer (take k (rows w))
all-emptied i k no_slot = refl
all-emptied zero zero (slot x h w) = refl
all-emptied zero (suc k) (slot x h w) = ap₂ (λ a b. a && b) (answered-emptied x.stand) (all-emptied zero k w)
all-emptied (suc i) zero (slot x h w) = refl
all-emptied (suc i) (suc k) (slot x h w) = ap (λ b. has_answer x && b) (all-emptied i k w)

stored-emptied : (i : ℕ) (w : Slots) (v : core.Slots) → AreStored (rows w) v → AreStored (rows (emptied_behind i w)) v
stored-emptied i no_slot v h = h
stored-emptied zero (slot x d w) core.no_slot h = absurd h
stored-emptied (suc i) (slot x d w) core.no_slot h = absurd h
stored-emptied zero (slot x d w) (core.slot g k y v) h = (h.0, stored-emptied zero w v h.1)
stored-emptied (suc i) (slot x d w) (core.slot g k y v) h = (h.0, stored-emptied i w v h.1)

behind-emptied : (i j : ℕ) (w : Slots) (v : core.Slots) → AreStoredBehind j (rows w) v → AreStoredBehind j (rows (emptied_behind i w)) v
behind-emptied i zero w v h = stored-emptied i w v h
behind-emptied i (suc j) no_slot v h = h
behind-emptied zero (suc j) (slot x d w) core.no_slot h = absurd h
behind-emptied (suc i) (suc j) (slot x d w) core.no_slot h = absurd h
behind-emptied zero (suc j) (slot x d w) (core.slot g k y v) h = behind-emptied zero j w v h
behind-emptied (suc i) (suc j) (slot x d w) (core.slot g k y v) h = behind-emptied i j w v h

shut-emptied : (i : ℕ) (w : Slots) (v : core.Slots) → IsShutIn Closed (rows w) v → IsShutIn Closed (rows (emptied_behind i w)) v
shut-emptied i w v h = λ j e. let k = h j (sym (redo-emptied i w) ∙ e) in (all-emptied i (j - 1) w ∙ k.0, behind-emptied i j w v k.1)

hold-emptied : (code : Compiled) (p : Rules) (q b : ℕ) (gs : Trees) (i : ℕ) (w : Slots) (v : core.Slots) → HoldsSlots code p q b gs w v → HoldsSlots code p q b gs (emptied_behind i w) v
hold-emptied code p q b none i no_slot v h = h
hold-emptied code p q b none i (slot x j w) v h = absurd h
hold-emptied code p q b (more g gs) i no_slot v h = absurd h
hold-emptied code p q b (more g gs) zero (slot x j w) v (k, y, u, l, rest, is) =
    (k, y, u, (l.0, stands-emptied q (length (tuples_of x)) x.stand y l.1, source-emptied code p b g x.stand j y l.2), hold-emptied code p q b gs zero w u rest, is)
hold-emptied code p q b (more g gs) (suc i) (slot x j w) v (k, y, u, l, rest, is) = (k, y, u, l, hold-emptied code p q b gs i w u rest, is)

quiet-emptied : (code : Compiled) (i : ℕ) (w : Slots) → AreQuietSlots code w → AreQuietSlots code (emptied_behind i w)
quiet-emptied code i no_slot t = tt
quiet-emptied code zero (slot x h w) t = (t.0, t.1, answer-emptied code x.stand h t.2, quiet-emptied code zero w t.3)
quiet-emptied code (suc i) (slot x h w) t = (t.0, t.1, t.2, quiet-emptied code i w t.3)

-- ---- a frame whose round is over

stands-emptied-all : (code : Compiled) (p : Rules) (q b : ℕ) (gs : Trees) (i : ℕ) (w : Slots) (v : core.Slots) → UnlessCleared Closed w v (HoldsSlots code p q b gs w v)
    → UnlessCleared Closed (emptied_behind i w) v (HoldsSlots code p q b gs (emptied_behind i w) v)
stands-emptied-all code p q b gs i no_slot v h = h
stands-emptied-all code p q b gs i (slot x j w) v h = stands-there code p q b gs Closed (emptied_behind i (slot x j w)) v (hold-emptied code p q b gs i (slot x j w) v h)

task-emptied : (code : Compiled) (p : Rules) (o : Tracked) (m : Machine) (c b : ℕ) (f : Forked) (q i : ℕ) (w : Slots) (qs : List Point) (st : Stack) (t : Task)
    → HoldsTask code p o (section m c b (parcall f q Closed w qs st)) t → HoldsTask code p o (section m c b (parcall f q Closed (emptied_behind i w) qs st)) t
task-emptied code p o m c b f q i w qs st t (ss, xs, l, holds, shown, (s, is_forked, v, sv, ys, k, kept, rest, shut, slots, points, shows, older, z), is) =
    (ss, xs, l, holds, shown, (s, is_forked, v, sv, ys, k, kept, rest, shut-emptied i w v shut, stands-emptied-all code p q s.next _ i w v slots, points, shows, older, z), is)

pub empties : (code : Compiled) (m : Machine) (c b : ℕ) (f : Forked) (q i : ℕ) (w : Slots) (qs : List Point) (st : Stack)
    → Goes code (section m c b (parcall f q Closed w qs st)) (section m c b (parcall f q Closed (emptied_behind i w) qs st))
empties code m c b f q i w qs st = λ p o t searched tied. (
  [],
  t,
  refl,
  record {
    holds = task-emptied code p o m c b f q i w qs st t tied.holds;
    simple = tied.simple;
    quiet = (tied.quiet.0, same-count Closed _ _ _ (length-emptied i w) tied.quiet.1, tied.quiet.2, quiet-emptied code i w tied.quiet.3, tied.quiet.4);
    in_order = tied.in_order;
    in_round = tied.in_round;
  },
)

-- ---- one that can't be redone

task-cleared : (code : Compiled) (p : Rules) (o : Tracked) (m : Machine) (c b : ℕ) (f : Forked) (q : ℕ) (w : Slots) (qs : List Point) (st : Stack) (t : Task) → next_redo (rows w) ≡ None
    → HoldsTask code p o (section m c b (parcall f q Closed w qs st)) t → HoldsTask code p o (section m c b (parcall f q Closed no_slot qs st)) t
task-cleared code p o m c b f q w qs st t none_left (ss, xs, l, holds, shown, (s, is_forked, v, sv, ys, k, kept, rest, shut, slots, points, shows, older, z), is) =
    let no_more : some_has_more v ≡ false = more-left code p q s.next (instance_all is_forked.own is_forked.goals) Closed w v slots ∙ ap is_some none_left in
    (ss, xs, l, holds, shown, (s, is_forked, v, sv, ys, k, kept, rest, λ i e. absurd (none-some _ e), no_more, points, shows, older, z), is)

pub clears : (code : Compiled) (m : Machine) (c b : ℕ) (f : Forked) (q : ℕ) (w : Slots) (qs : List Point) (st : Stack) → next_redo (rows w) ≡ None
    → Goes code (section m c b (parcall f q Closed w qs st)) (section m c b (parcall f q Closed no_slot qs st))
clears code m c b f q w qs st none_left = λ p o t searched tied. (
  [],
  t,
  refl,
  record {
    holds = task-cleared code p o m c b f q w qs st t none_left tied.holds;
    simple = tied.simple;
    quiet = (tied.quiet.0, inr (refl, refl), tied.quiet.2, tt, tied.quiet.4);
    in_order = tied.in_order;
    in_round = tied.in_round;
  },
)
