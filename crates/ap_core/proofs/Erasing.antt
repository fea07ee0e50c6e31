-- What the core's conditions and changes say of the erased tasks.
use Rattle.std.proofs.Common.{◌≡◌, ℕ, zero, suc, ◌+◌, ◌-◌, ◌<◌, ◌≤◌, ◌⊎◌, inl, inr, nat_lt, Bool, true, false, not, ◌||◌, ◌&&◌, if◌then◌else◌, List, [], ◌∷◌, ◌++◌, map, Option, Some, None, refl, ap, ap₂, sym, ◌∙◌, subst, arith}
use Rattle.std.specs.List.{AllByRecursion}
use Rattle.std.proofs.lemmas.Bool.{false≢true, not-true, not-false, and_parts, or_cases, or_parts}
use Rattle.std.proofs.lemmas.List.{map-append}
use Rattle.std.proofs.lemmas.Option.{none-some}
use Rattle.ap_term.specs.declared.faults.Fault.{Fault}
use Rattle.ap_term.specs.Tree.{Tree, Trees, none, more}
use Rattle.ap_term.specs.Goals.{Program}
use Rattle.ap_term.specs.Search.{State}
use Rattle.ap_laws.specs.Plain.{Plain, Ways, plain_of, plain_ways, HasFullGroups}
use Rattle.ap_laws.specs.Graft.{graft_state, IsHarmless}
use Rattle.ap_laws.specs.Tasks as laws
use Rattle.ap_laws.specs.Tasks.{left, edge_alternatives, edge_slots}
use Rattle.ap_laws.specs.Events as events
use Rattle.ap_laws.specs.Events.{plains, freshes, joined_state, IsExhausted, IsFull, HasFailed, HasFailedSafely, HasFailedLater, HasNoAlternative, resets, NextRedo, next_held, next_again, over_held, over_again, Forgets, forget_here, forget_past_fresh, forget_past_stored, Turn, Spin, IsUntouched}
use Rattle.ap_laws.specs.Rejoining.{IsSpent, IsSpentIn, IsSlotSpent, IsDrainSpent, IsRaised, IsSlotRaised}
use Rattle.ap_laws.proofs.Invariant.{IsShut}
use Rattle.ap_core.specs.declared.tasks.Round.TheVariants.{First, Later, Closed}
use Rattle.ap_core.specs.declared.tasks.Idle.TheVariants.{Ready, Waiting, GivenBack}
use Rattle.ap_core.specs.declared.tasks.Busy.{Busy}
use Rattle.ap_core.specs.declared.tasks.Busy.TheVariants.{Running, Stopping, Failed, Spent, Stopped, Raised}
use Rattle.ap_core.specs.Tasks.{Answer, Task, task, Alternatives, exhausted, alternative, Alternative, state, frame, Slots, no_slot, slot, Progress, idle, stored, busy, held, redone, again, drained}
use Rattle.ap_core.specs.Conditions.{is_exhausted, spent_by, stopped_cost, left_edge, leftmost, is_failed, has_failed, some_failed, has_answer, all_answered, has_more, some_has_more, is_again, some_is_again, before_failed, is_quiet, is_settled, answered_left}
use Rattle.ap_core.specs.Relation.{states, ready, plain_answer, with_answers, if_kept, put_away, all_put_away, given, restarted_with, kept, redo_from, readied, as_states, replay_of, replayed, each_slot}
use Rattle.ap_core.specs.Erased.{erased, erased_alternatives, erased_alternative, erased_slots, erased_slot}
use Rattle.ap_core.specs.Heeding.{Heeds}
use Rattle.ap_core.proofs.Options.{Star, here, onward, Star-one, Star-map, Star-then}
use Rattle.ap_core.proofs.Fine.{IsGiven, Stands, AreWaiting, Where, past, beyond, undrained, next_to, Drains, Fine, FineFirst, FineBehind, FineAlternative, FineClosed, FineHeldTask, FineOpen, FineBegun, FineLater, FinePivot, FineShut, FineHeld}

-- ---- states

pub erased-states : (ss : List State) (l : Alternatives) → erased_alternatives (states ss l) ≡ plains (map plain_of ss) (erased_alternatives l)
erased-states [] l = refl
erased-states (s ∷ ss) l = ap (laws.plain (plain_of s)) (erased-states ss l)

pub plain_of-as_states : (m : List Answer) → map plain_of (as_states m) ≡ map plain_answer m
plain_of-as_states [] = refl
plain_of-as_states (a ∷ m) = ap (λ l. plain_answer a ∷ l) (plain_of-as_states m)

-- ---- tasks

pub IsExhausted-erased : (t : Task) → is_exhausted t ≡ true → IsExhausted (erased t)
IsExhausted-erased (task r c exhausted) h = tt
IsExhausted-erased (task r c (alternative a l)) h = absurd (false≢true h)

pub exhausted_alternative : (c : ℕ) (a : Alternative) (l : laws.Alternatives) → IsExhausted (laws.task c (erased_alternative a l)) → ⊥
exhausted_alternative c (state s) l h = h
exhausted_alternative c (frame s r w) l h = h

pub exhausted-erased : (t : Task) → IsExhausted (erased t) → is_exhausted t ≡ true
exhausted-erased (task r c exhausted) h = refl
exhausted-erased (task r c (alternative a l)) h = absurd (exhausted_alternative c a (erased_alternatives l) h)

pub spent_by-left : (t : Task) → spent_by t ≤ left (erased t)
spent_by-left (task r c l) = omega arith

pub left-exhausted : (t : Task) → is_exhausted t ≡ true → left (erased t) ≡ spent_by t
left-exhausted (task r c exhausted) h = omega arith
left-exhausted (task r c (alternative a l)) h = absurd (false≢true h)

mutual
  pub IsSpent-left : (b : ℕ) (t : laws.Task) → IsSpent b t → b ≤ left t
  IsSpent-left b (laws.task c l) h = IsSpentIn-edge b c l h

  IsSpentIn-edge : (b c : ℕ) (l : laws.Alternatives) → IsSpentIn b c l → b ≤ c + edge_alternatives l
  IsSpentIn-edge b c laws.exhausted h = absurd h
  IsSpentIn-edge b c (laws.plain s l) h = omega (arith, h.0)
  IsSpentIn-edge b c (laws.frame s laws.closed w l) h = absurd h
  IsSpentIn-edge b c (laws.frame s laws.first w l) (inl h) = omega arith
  IsSpentIn-edge b c (laws.frame s laws.first w l) (inr (inl h)) = omega (arith, h.1, IsSlotSpent-edge h.0 w h.2)
  IsSpentIn-edge b c (laws.frame s laws.first w l) (inr (inr h)) = omega (arith, h.1, IsDrainSpent-edge h.0 w h.2)
  IsSpentIn-edge b c (laws.frame s laws.later w l) (inl h) = omega arith
  IsSpentIn-edge b c (laws.frame s laws.later w l) (inr h) = omega (arith, h.1, IsSlotSpent-edge h.0 w h.2)

  IsSlotSpent-edge : (r : ℕ) (w : laws.Slots) → IsSlotSpent r w → r ≤ edge_slots w
  IsSlotSpent-edge r laws.no_slot h = absurd h
  IsSlotSpent-edge r (laws.fresh g w) h = absurd h
  IsSlotSpent-edge r (laws.stored g m w) h = absurd h
  IsSlotSpent-edge r (laws.busy g t w) h = IsSpent-left r t h
  IsSlotSpent-edge r (laws.held g m a t c w) h = omega (arith, IsSlotSpent-edge r w h)
  IsSlotSpent-edge r (laws.redone g m t i w) h = omega (arith, IsSpent-left (i + r) t h)
  IsSlotSpent-edge r (laws.again g m a t c w) h = omega (arith, IsSlotSpent-edge r w h)
  IsSlotSpent-edge r (laws.drained g m t i e w) h = absurd h

  IsDrainSpent-edge : (r : ℕ) (w : laws.Slots) → IsDrainSpent r w → r ≤ edge_slots w
  IsDrainSpent-edge r laws.no_slot h = absurd h
  IsDrainSpent-edge r (laws.fresh g w) h = absurd h
  IsDrainSpent-edge r (laws.stored g m w) h = absurd h
  IsDrainSpent-edge r (laws.busy g t w) h = absurd h
  IsDrainSpent-edge r (laws.held g m a t c w) h = omega (arith, h.1, IsDrainSpent-edge h.0 w h.2)
  IsDrainSpent-edge r (laws.redone g m t i w) h = absurd h
  IsDrainSpent-edge r (laws.again g m a t c w) h = absurd h
  IsDrainSpent-edge r (laws.drained g m t i e w) h = omega (arith, h.1, IsSpent-left (i + h.0) t h.2)

-- ---- slots

pub erased-ready : (gs : Trees) → erased_slots (ready gs) ≡ freshes gs
erased-ready none = refl
erased-ready (more g gs) = ap (laws.fresh g) (erased-ready gs)

pub AreWaiting-all_put_away : (w : Slots) → AreWaiting (all_put_away w)
AreWaiting-all_put_away no_slot = tt
AreWaiting-all_put_away (slot g k (idle i) w) = AreWaiting-all_put_away w
AreWaiting-all_put_away (slot g k (busy b t) w) = AreWaiting-all_put_away w
AreWaiting-all_put_away (slot g k (drained m b t i e) w) = AreWaiting-all_put_away w
AreWaiting-all_put_away (slot g true (stored m) w) = AreWaiting-all_put_away w
AreWaiting-all_put_away (slot g false (stored m) w) = AreWaiting-all_put_away w
AreWaiting-all_put_away (slot g true (held m a t c) w) = AreWaiting-all_put_away w
AreWaiting-all_put_away (slot g false (held m a t c) w) = AreWaiting-all_put_away w
AreWaiting-all_put_away (slot g true (redone m b t i) w) = AreWaiting-all_put_away w
AreWaiting-all_put_away (slot g false (redone m b t i) w) = AreWaiting-all_put_away w
AreWaiting-all_put_away (slot g true (again m a t c) w) = AreWaiting-all_put_away w
AreWaiting-all_put_away (slot g false (again m a t c) w) = AreWaiting-all_put_away w

-- past a slot that has begun anew
pub forget_past_fresh_all : (g : Tree) {v u : laws.Slots} → Star Forgets v u → Star Forgets (laws.fresh g v) (laws.fresh g u)
forget_past_fresh_all g {v = v} s = Star-map Forgets Forgets (laws.fresh g) (λ x y d. forget_past_fresh d) v s

pub forget_past_stored_all : (g : Tree) (m : List Plain) {v u : laws.Slots} → Star Forgets v u → Star Forgets (laws.stored g m v) (laws.stored g m u)
forget_past_stored_all g m {v = v} s = Star-map Forgets Forgets (laws.stored g m) (λ x y d. forget_past_stored d) v s

-- a record is kept, or given up
Forgets-if_kept : (g : Tree) (k : Bool) (m : List Answer) (l : List Plain) {v u : laws.Slots} → map plain_answer m ≡ l → Star Forgets v u → Star Forgets (laws.stored g l v) (erased_slot g (if_kept k m) u)
Forgets-if_kept g true m l {v = v} {u = u} e s = subst (λ x. Star Forgets (laws.stored g l v) (laws.stored g x u)) (sym e) (forget_past_stored_all g l s)
Forgets-if_kept g false m l e s = onward (forget_past_stored_all g l s) forget_here

pub Forgets-all_put_away : (w : Slots) → Star Forgets (resets (erased_slots w)) (erased_slots (all_put_away w))
Forgets-all_put_away no_slot = here
Forgets-all_put_away (slot g k (idle i) w) = forget_past_fresh_all g (Forgets-all_put_away w)
Forgets-all_put_away (slot g k (busy b t) w) = forget_past_fresh_all g (Forgets-all_put_away w)
Forgets-all_put_away (slot g k (drained m b t i e) w) = forget_past_fresh_all g (Forgets-all_put_away w)
Forgets-all_put_away (slot g k (stored m) w) = Forgets-if_kept g k m (map plain_answer m) refl (Forgets-all_put_away w)
Forgets-all_put_away (slot g k (redone m b t i) w) = Forgets-if_kept g k m (map plain_answer m) refl (Forgets-all_put_away w)
Forgets-all_put_away (slot g k (held m a t c) w) = Forgets-if_kept g k (m ++ a ∷ []) (map plain_answer m ++ plain_answer a ∷ []) (map-append plain_answer m (a ∷ [])) (Forgets-all_put_away w)
Forgets-all_put_away (slot g k (again m a t c) w) = Forgets-if_kept g k (m ++ a ∷ []) (map plain_answer m ++ plain_answer a ∷ []) (map-append plain_answer m (a ∷ [])) (Forgets-all_put_away w)

erased-readied : (g : Tree) (x : Progress) (w : laws.Slots) → erased_slot g (readied x) w ≡ erased_slot g x w
erased-readied g (idle Ready) w = refl
erased-readied g (idle Waiting) w = refl
erased-readied g (idle GivenBack) w = refl
erased-readied g (stored m) w = refl
erased-readied g (busy b t) w = refl
erased-readied g (held m a t c) w = refl
erased-readied g (redone m b t i) w = refl
erased-readied g (again m a t c) w = refl
erased-readied g (drained m b t i e) w = refl

pub erased-all_readied : (w : Slots) → erased_slots (each_slot readied w) ≡ erased_slots w
erased-all_readied no_slot = refl
erased-all_readied (slot g k x w) = ap (erased_slot g (readied x)) (erased-all_readied w) ∙ erased-readied g x (erased_slots w)

some_is_again-AreWaiting : (w : Slots) → AreWaiting w → some_is_again w ≡ true → ⊥
some_is_again-AreWaiting no_slot h e = false≢true e
some_is_again-AreWaiting (slot g k (idle Ready) w) h e = h
some_is_again-AreWaiting (slot g k (idle Waiting) w) h e = some_is_again-AreWaiting w h e
some_is_again-AreWaiting (slot g k (idle GivenBack) w) h e = h
some_is_again-AreWaiting (slot g k (stored m) w) h e = some_is_again-AreWaiting w h e
some_is_again-AreWaiting (slot g k (busy b t) w) h e = h
some_is_again-AreWaiting (slot g k (held m a t c) w) h e = h
some_is_again-AreWaiting (slot g k (redone m b t i) w) h e = h
some_is_again-AreWaiting (slot g k (again m a t c) w) h e = h
some_is_again-AreWaiting (slot g k (drained m b t i n) w) h e = h

some_failed-AreWaiting : (w : Slots) → AreWaiting w → some_failed w ≡ true → ⊥
some_failed-AreWaiting no_slot h e = false≢true e
some_failed-AreWaiting (slot g k (idle Ready) w) h e = h
some_failed-AreWaiting (slot g k (idle Waiting) w) h e = some_failed-AreWaiting w h e
some_failed-AreWaiting (slot g k (idle GivenBack) w) h e = h
some_failed-AreWaiting (slot g k (stored m) w) h e = some_failed-AreWaiting w h e
some_failed-AreWaiting (slot g k (busy b t) w) h e = h
some_failed-AreWaiting (slot g k (held m a t c) w) h e = h
some_failed-AreWaiting (slot g k (redone m b t i) w) h e = h
some_failed-AreWaiting (slot g k (again m a t c) w) h e = h
some_failed-AreWaiting (slot g k (drained m b t i n) w) h e = h

pub with_answers-joined_state : (w : Slots) (b : ℕ) (s : State) → with_answers w b s ≡ joined_state (erased_slots w) b s
with_answers-joined_state no_slot b s = refl
with_answers-joined_state (slot g k (idle i) w) b s = refl
with_answers-joined_state (slot g k (stored m) w) b s = refl
with_answers-joined_state (slot g k (busy x t) w) b s = refl
with_answers-joined_state (slot g k (held m a t c) w) b s = with_answers-joined_state w b (graft_state b s (plain_answer a))
with_answers-joined_state (slot g k (redone m x t i) w) b s = refl
with_answers-joined_state (slot g k (again m a t c) w) b s = with_answers-joined_state w b (graft_state b s (plain_answer a))
with_answers-joined_state (slot g k (drained m x t i e) w) b s = refl

pub IsFull-all_answered : (w : Slots) → all_answered w ≡ true → IsFull (erased_slots w)
IsFull-all_answered no_slot h = tt
IsFull-all_answered (slot g k (idle i) w) h = absurd (false≢true h)
IsFull-all_answered (slot g k (stored m) w) h = absurd (false≢true h)
IsFull-all_answered (slot g k (busy b t) w) h = absurd (false≢true h)
IsFull-all_answered (slot g k (held m a t c) w) h = IsFull-all_answered w h
IsFull-all_answered (slot g k (redone m b t i) w) h = absurd (false≢true h)
IsFull-all_answered (slot g k (again m a t c) w) h = IsFull-all_answered w h
IsFull-all_answered (slot g k (drained m b t i e) w) h = absurd (false≢true h)

-- where all have answered the left edge is the sum of the costs
pub left_edge-full : (r n : ℕ) (w : Slots) → all_answered w ≡ true → left_edge r n w ≡ n + edge_slots (erased_slots w)
left_edge-full r n no_slot h = omega arith
left_edge-full r n (slot g k (idle i) w) h = absurd (false≢true h)
left_edge-full r n (slot g k (stored m) w) h = absurd (false≢true h)
left_edge-full r n (slot g k (busy b t) w) h = absurd (false≢true h)
left_edge-full r n (slot g k (held m a t c) w) h = omega (arith, left_edge-full r (n + c) w h)
left_edge-full r n (slot g k (redone m b t i) w) h = absurd (false≢true h)
left_edge-full r n (slot g k (again m a t c) w) h = omega (arith, left_edge-full r (n + c) w h)
left_edge-full r n (slot g k (drained m b t i e) w) h = absurd (false≢true h)

stopped_cost-left : (r c : ℕ) (b : Busy) (t : Task) → Stands (c + r) b t → stopped_cost r c b t ≤ left (erased t) - c
stopped_cost-left r c Running t h = omega arith
stopped_cost-left r c Stopping t h = omega arith
stopped_cost-left r c Failed t h = omega (arith, spent_by-left t)
stopped_cost-left r c Spent t h = omega (arith, IsSpent-left (c + r) (erased t) h)
stopped_cost-left r c Stopped t h = omega (arith, spent_by-left t)
stopped_cost-left r c (Raised e) t h = omega (arith, spent_by-left t)

stopped_cost-failed : (r c : ℕ) (b : Busy) (t : Task) (n : ℕ) → Stands n b t → is_failed b ≡ true → stopped_cost r c b t ≡ left (erased t) - c
stopped_cost-failed r c Running t n h f = absurd (false≢true f)
stopped_cost-failed r c Stopping t n h f = absurd (false≢true f)
stopped_cost-failed r c Failed t n h f = let e : left (erased t) ≡ spent_by t = left-exhausted t h in omega arith
stopped_cost-failed r c Spent t n h f = absurd (false≢true f)
stopped_cost-failed r c Stopped t n h f = absurd (false≢true f)
stopped_cost-failed r c (Raised e) t n h f = absurd (false≢true f)

Stands-zero : (r : ℕ) (b : Busy) (t : Task) → Stands r b t → Stands (0 + r) b t
Stands-zero r b t h = let e : r ≡ 0 + r = omega arith in subst (λ n. Stands n b t) e h

IsExhausted-Stands : (r : ℕ) (b : Busy) (t : Task) → Stands r b t → is_failed b ≡ true → IsExhausted (erased t)
IsExhausted-Stands r Running t h e = absurd (false≢true e)
IsExhausted-Stands r Stopping t h e = absurd (false≢true e)
IsExhausted-Stands r Failed t h e = IsExhausted-erased t h
IsExhausted-Stands r Spent t h e = absurd (false≢true e)
IsExhausted-Stands r Stopped t h e = absurd (false≢true e)
IsExhausted-Stands r (Raised x) t h e = absurd (false≢true e)

-- however a drained slot's task stands, it stands so for some budget
pub stands_somehow : (z : Where) (r : ℕ) (b : Busy) (t : Task) (i e : ℕ) → Drains z r b t i e → (n : ℕ) × Stands n b t
stands_somehow (past n) r b t i e h = (i + (r - (n + e)), h.1)
stands_somehow beyond r b t i e h = h
stands_somehow undrained r b t i e h = absurd h

spent_so : (b : Busy) → Some b ≡ Some Spent → b ≡ Spent
spent_so b h = cc

raised_so : (b : Busy) (e : Fault) → Some b ≡ Some (Raised e) → b ≡ Raised e
raised_so b e h = cc

IsSpent-Stands : (r : ℕ) (b : Busy) (t : Task) → Stands r b t → b ≡ Spent → IsSpent r (erased t)
IsSpent-Stands r b t h e = subst (λ x. Stands r x t) e h

IsRaised-Stands : (r : ℕ) (b : Busy) (t : Task) (f : Fault) → Stands r b t → b ≡ Raised f → IsRaised f (erased t)
IsRaised-Stands r b t f h e = subst (λ x. Stands r x t) e h

some_has_more-IsUntouched : (w : Slots) → IsUntouched (erased_slots w) → some_has_more w ≡ true → ⊥
some_has_more-IsUntouched no_slot k e = false≢true e
some_has_more-IsUntouched (slot f o (idle j) w) k e = some_has_more-IsUntouched w k e
some_has_more-IsUntouched (slot f o (stored m) w) k e = some_has_more-IsUntouched w k e
some_has_more-IsUntouched (slot f o (busy y u) w) k e = k
some_has_more-IsUntouched (slot f o (held n d u q) w) k e = k
some_has_more-IsUntouched (slot f o (redone n y u j) w) k e = k
some_has_more-IsUntouched (slot f o (again n d u q) w) k e = k
some_has_more-IsUntouched (slot f o (drained n y u j q) w) k e = k

HasNoAlternative-IsUntouched : (v : Slots) → IsUntouched (erased_slots v) → HasNoAlternative (erased_slots v)
HasNoAlternative-IsUntouched no_slot k = tt
HasNoAlternative-IsUntouched (slot f o (idle j) v) k = HasNoAlternative-IsUntouched v k
HasNoAlternative-IsUntouched (slot f o (stored m) v) k = HasNoAlternative-IsUntouched v k
HasNoAlternative-IsUntouched (slot f o (busy y u) v) k = absurd k
HasNoAlternative-IsUntouched (slot f o (held n d u q) v) k = absurd k
HasNoAlternative-IsUntouched (slot f o (redone n y u j) v) k = absurd k
HasNoAlternative-IsUntouched (slot f o (again n d u q) v) k = absurd k
HasNoAlternative-IsUntouched (slot f o (drained n y u j q) v) k = absurd k

pub HasNoAlternative-some_has_more : (w : Slots) → some_has_more w ≡ false → IsShut (erased_slots w) → HasNoAlternative (erased_slots w)
HasNoAlternative-some_has_more no_slot e h = tt
HasNoAlternative-some_has_more (slot g k (idle i) w) e h = absurd h
HasNoAlternative-some_has_more (slot g k (stored m) w) e h = absurd h
HasNoAlternative-some_has_more (slot g k (busy b t) w) e h = absurd h
HasNoAlternative-some_has_more (slot g k (held m a t c) w) e h =
    let q = or_parts (not (is_exhausted t)) (some_has_more w) e in (IsExhausted-erased t (not-false (is_exhausted t) q.0), HasNoAlternative-some_has_more w q.1 h)
HasNoAlternative-some_has_more (slot g k (redone m b t i) w) e h = (h.0, HasNoAlternative-IsUntouched w h.1)
HasNoAlternative-some_has_more (slot g k (again m a t c) w) e h =
    let q = or_parts (not (is_exhausted t)) (some_has_more w) e in (IsExhausted-erased t (not-false (is_exhausted t) q.0), HasNoAlternative-some_has_more w q.1 h)
HasNoAlternative-some_has_more (slot g k (drained m b t i n) w) e h = absurd h

pub erased-given : (r : ℕ) (t : Task) → erased (given r t) ≡ erased t
erased-given r (task q c l) = refl

pub IsGiven-given : (r : ℕ) (t : Task) → IsGiven (spent_by t + r) (given r t)
IsGiven-given r (task q c l) = refl

more_left : (t : Task) → not (is_exhausted t) ≡ true → IsExhausted (erased t) → ⊥
more_left t e h = false≢true (sym (not-true (is_exhausted t) e) ∙ exhausted-erased t h)

module _ (loud : Tree → Bool) where
  pub FineBehind-states : (ss : List State) (l : Alternatives) → AllByRecursion HasFullGroups ss → FineBehind loud l → FineBehind loud (states ss l)
  FineBehind-states [] l h f = f
  FineBehind-states (s ∷ ss) l h f = (h.0, FineBehind-states ss l h.1 f)

  pub FineAlternative-FineClosed : (r : ℕ) (a : Alternative) → FineClosed loud a → FineAlternative loud r a
  FineAlternative-FineClosed r (state s) h = h
  FineAlternative-FineClosed r (frame s First w) h = absurd h
  FineAlternative-FineClosed r (frame s Later w) h = absurd h
  FineAlternative-FineClosed r (frame s Closed w) h = h

  pub FineFirst-FineBehind : (r : ℕ) (l : Alternatives) → FineBehind loud l → FineFirst loud r l
  FineFirst-FineBehind r exhausted h = tt
  FineFirst-FineBehind r (alternative a l) h = (FineAlternative-FineClosed r a h.0, h.1)

  pub edge-FineBehind : (l : Alternatives) → FineBehind loud l → edge_alternatives (erased_alternatives l) ≡ 0
  edge-FineBehind exhausted h = refl
  edge-FineBehind (alternative (state s) l) h = refl
  edge-FineBehind (alternative (frame s First w) l) h = absurd h.0
  edge-FineBehind (alternative (frame s Later w) l) h = absurd h.0
  edge-FineBehind (alternative (frame s Closed w) l) h = refl

  pub left-FineHeldTask : (t : Task) → FineHeldTask loud t → left (erased t) ≡ spent_by t
  left-FineHeldTask (task r c l) h = omega (arith, edge-FineBehind l h)

  pub Fine-given : (r : ℕ) (t : Task) → FineHeldTask loud t → Fine loud (given r t)
  Fine-given r (task q c l) h = FineFirst-FineBehind r l h

  pub FineOpen-ready : (z : Where) (r : ℕ) (gs : Trees) → FineOpen loud z r (ready gs)
  FineOpen-ready z r none = tt
  FineOpen-ready (past n) r (more g gs) = (tt, FineOpen-ready undrained r gs)
  FineOpen-ready beyond r (more g gs) = (tt, FineOpen-ready beyond r gs)
  FineOpen-ready undrained r (more g gs) = (tt, FineOpen-ready undrained r gs)

  -- what stands right of an answered redone slot, begun anew
  FineBegun-readied : (r : ℕ) (g : Tree) (x : Progress) → FineBegun loud undrained r g x → FineBegun loud undrained r g (readied x)
  FineBegun-readied r g (idle Ready) h = tt
  FineBegun-readied r g (idle Waiting) h = tt
  FineBegun-readied r g (idle GivenBack) h = tt
  FineBegun-readied r g (stored m) h = tt
  FineBegun-readied r g (busy b t) h = h
  FineBegun-readied r g (held m a t c) h = h
  FineBegun-readied r g (redone m b t i) h = absurd h
  FineBegun-readied r g (again m a t c) h = absurd h
  FineBegun-readied r g (drained m b t i e) h = h

  FineOpen-all_readied : (r : ℕ) (w : Slots) → FineOpen loud undrained r w → FineOpen loud undrained r (each_slot readied w)
  FineOpen-all_readied r no_slot h = tt
  FineOpen-all_readied r (slot g k x w) h = (FineBegun-readied r g x h.0, FineOpen-all_readied r w h.1)

  pub FineLater-all_readied : (r : ℕ) (w : Slots) → FineLater loud r w → some_is_again w ≡ true → FineLater loud r (each_slot readied w)
  FineLater-all_readied r no_slot h e = absurd h
  FineLater-all_readied r (slot g k (idle i) w) h e = absurd h
  FineLater-all_readied r (slot g k (stored m) w) h e = absurd h
  FineLater-all_readied r (slot g k (busy b t) w) h e = absurd h
  FineLater-all_readied r (slot g k (held m a t c) w) h e = (h.0, FineLater-all_readied r w h.1 e)
  FineLater-all_readied r (slot g k (redone m b t i) w) h e = absurd (some_is_again-AreWaiting w h.2 e)
  FineLater-all_readied r (slot g k (again m a t c) w) h e = (h.0, FineOpen-all_readied r w h.1)
  FineLater-all_readied r (slot g k (drained m b t i n) w) h e = absurd h

  AllFull-as_states : (m : List Answer) → AllByRecursion HasFullGroups (as_states m)
  AllFull-as_states [] = tt
  AllFull-as_states (a ∷ m) = (tt, AllFull-as_states m)

  FineBegun-replayed : (r : ℕ) (g : Tree) (x : Progress) → FineBegun loud undrained r g x → FineBegun loud undrained r g (replayed x)
  FineBegun-replayed r g (idle Ready) h = tt
  FineBegun-replayed r g (idle Waiting) h = tt
  FineBegun-replayed r g (idle GivenBack) h = tt
  FineBegun-replayed r g (stored []) h = tt
  FineBegun-replayed r g (stored (a ∷ m)) h = FineBehind-states (as_states m) exhausted (AllFull-as_states m) tt
  FineBegun-replayed r g (busy b t) h = h
  FineBegun-replayed r g (held m a t c) h = h
  FineBegun-replayed r g (redone m b t i) h = absurd h
  FineBegun-replayed r g (again m a t c) h = absurd h
  FineBegun-replayed r g (drained m b t i e) h = h

  FineOpen-all_replayed : (r : ℕ) (w : Slots) → FineOpen loud undrained r w → FineOpen loud undrained r (each_slot replayed w)
  FineOpen-all_replayed r no_slot h = tt
  FineOpen-all_replayed r (slot g k x w) h = (FineBegun-replayed r g x h.0, FineOpen-all_replayed r w h.1)

  pub FineLater-all_replayed : (r : ℕ) (w : Slots) → FineLater loud r w → some_is_again w ≡ true → FineLater loud r (each_slot replayed w)
  FineLater-all_replayed r no_slot h e = absurd h
  FineLater-all_replayed r (slot g k (idle i) w) h e = absurd h
  FineLater-all_replayed r (slot g k (stored m) w) h e = absurd h
  FineLater-all_replayed r (slot g k (busy b t) w) h e = absurd h
  FineLater-all_replayed r (slot g k (held m a t c) w) h e = (h.0, FineLater-all_replayed r w h.1 e)
  FineLater-all_replayed r (slot g k (redone m b t i) w) h e = absurd (some_is_again-AreWaiting w h.2 e)
  FineLater-all_replayed r (slot g k (again m a t c) w) h e = (h.0, FineOpen-all_replayed r w h.1)
  FineLater-all_replayed r (slot g k (drained m b t i n) w) h e = absurd h

  -- the stored answers come again, slot by slot
  module _ (A : Ways) (b : ℕ) where
    Turns-replay_of : (g : Tree) (m : List Answer) (v : laws.Slots) → Star (Turn A b) (laws.stored g (map plain_answer m) v) (erased_slot g (replay_of m) v)
    Turns-replay_of g [] v = here
    Turns-replay_of g (a ∷ m) v =
        subst (λ l. Star (Turn A b) (laws.stored g (plain_answer a ∷ map plain_answer m) v) (laws.held g (plain_answer a ∷ []) (plain_answer a) (laws.task 0 l) 0 v))
        (sym (erased-states (as_states m) exhausted ∙ ap (λ l. plains l laws.exhausted) (plain_of-as_states m))) (onward here events.replays)

    Turns-all_replayed : (r : ℕ) (w : Slots) → FineOpen loud undrained r w → Star (Turn A b) (erased_slots w) (erased_slots (each_slot replayed w))
    Turns-all_replayed r no_slot h = here
    Turns-all_replayed r (slot g k (idle Ready) w) h = Star-map (Turn A b) (Turn A b) (laws.fresh g) (λ y y' s. events.past_fresh s) (erased_slots w) (Turns-all_replayed r w h.1)
    Turns-all_replayed r (slot g k (idle Waiting) w) h = Star-map (Turn A b) (Turn A b) (laws.fresh g) (λ y y' s. events.past_fresh s) (erased_slots w) (Turns-all_replayed r w h.1)
    Turns-all_replayed r (slot g k (idle GivenBack) w) h = Star-map (Turn A b) (Turn A b) (laws.fresh g) (λ y y' s. events.past_fresh s) (erased_slots w) (Turns-all_replayed r w h.1)
    Turns-all_replayed r (slot g k (stored m) w) h =
        Star-then (Turn A b) (Star-map (Turn A b) (Turn A b) (laws.stored g (map plain_answer m)) (λ y y' s. events.past_stored s) (erased_slots w) (Turns-all_replayed r w h.1))
        (Turns-replay_of g m (erased_slots (each_slot replayed w)))
    Turns-all_replayed r (slot g k (busy x t) w) h = Star-map (Turn A b) (Turn A b) (laws.busy g (erased t)) (λ y y' s. events.past_busy s) (erased_slots w) (Turns-all_replayed r w h.1)
    Turns-all_replayed r (slot g k (held m a t c) w) h =
        Star-map (Turn A b) (Turn A b) (laws.held g (map plain_answer m ++ plain_answer a ∷ []) (plain_answer a) (erased t) c) (λ y y' s. Turn.past_held s) (erased_slots w) (Turns-all_replayed r w h.1)
    Turns-all_replayed r (slot g k (redone m x t i) w) h = absurd h.0
    Turns-all_replayed r (slot g k (again m a t c) w) h = absurd h.0
    Turns-all_replayed r (slot g k (drained m x t i e) w) h =
        Star-map (Turn A b) (Turn A b) (λ v. laws.drained g (map plain_answer m) (erased t) i e v) (λ y y' s. events.past_drained s) (erased_slots w) (Turns-all_replayed r w h.1)

    pub Spins-all_replayed : (r : ℕ) (w : Slots) → FineLater loud r w → some_is_again w ≡ true → Star (Spin A b) (erased_slots w) (erased_slots (each_slot replayed w))
    Spins-all_replayed r no_slot h e = absurd h
    Spins-all_replayed r (slot g k (idle i) w) h e = absurd h
    Spins-all_replayed r (slot g k (stored m) w) h e = absurd h
    Spins-all_replayed r (slot g k (busy x t) w) h e = absurd h
    Spins-all_replayed r (slot g k (held m a t c) w) h e =
        Star-map (Spin A b) (Spin A b) (laws.held g (map plain_answer m ++ plain_answer a ∷ []) (plain_answer a) (erased t) c) (λ y y' s. events.left_of s) (erased_slots w) (Spins-all_replayed r w h.1 e)
    Spins-all_replayed r (slot g k (redone m x t i) w) h e = absurd (some_is_again-AreWaiting w h.2 e)
    Spins-all_replayed r (slot g k (again m a t c) w) h e =
        Star-map (Turn A b) (Spin A b) (laws.again g (map plain_answer m ++ plain_answer a ∷ []) (plain_answer a) (erased t) c) (λ y y' s. events.right_of s) (erased_slots w) (Turns-all_replayed r w h.1)
    Spins-all_replayed r (slot g k (drained m x t i n) w) h e = absurd h

  pub some_is_again-FineOpen : (z : Where) (r : ℕ) (w : Slots) → FineOpen loud z r w → some_is_again w ≡ true → ⊥
  some_is_again-FineOpen z r no_slot h e = false≢true e
  some_is_again-FineOpen z r (slot g k (idle i) w) h e = some_is_again-FineOpen (next_to z (idle i)) r w h.1 e
  some_is_again-FineOpen z r (slot g k (stored m) w) h e = some_is_again-FineOpen (next_to z (stored m)) r w h.1 e
  some_is_again-FineOpen z r (slot g k (busy b t) w) h e = some_is_again-FineOpen (next_to z (busy b t)) r w h.1 e
  some_is_again-FineOpen z r (slot g k (held m a t c) w) h e = some_is_again-FineOpen (next_to z (held m a t c)) r w h.1 e
  some_is_again-FineOpen z r (slot g k (redone m b t i) w) h e = h.0
  some_is_again-FineOpen z r (slot g k (again m a t c) w) h e = h.0
  some_is_again-FineOpen z r (slot g k (drained m b t i n) w) h e = some_is_again-FineOpen (next_to z (drained m b t i n)) r w h.1 e

  -- ---- the left edge

  pub left_edge-FineOpen : (n r : ℕ) (w : Slots) → FineOpen loud (past n) r w → left_edge r n w ≤ n + edge_slots (erased_slots w)
  left_edge-FineOpen n r no_slot h = omega arith
  left_edge-FineOpen n r (slot g k (idle i) w) h = omega arith
  left_edge-FineOpen n r (slot g k (stored m) w) h = omega arith
  left_edge-FineOpen n r (slot g k (busy b t) w) h = omega (arith, stopped_cost-left r 0 b t (Stands-zero r b t h.0.0))
  left_edge-FineOpen n r (slot g k (held m a t c) w) h = omega (arith, left_edge-FineOpen (n + c) r w h.1)
  left_edge-FineOpen n r (slot g k (redone m b t i) w) h = absurd h.0
  left_edge-FineOpen n r (slot g k (again m a t c) w) h = absurd h.0
  left_edge-FineOpen n r (slot g k (drained m b t i e) w) h = omega (arith, stopped_cost-left (r - (n + e)) i b t h.0.0.1)

  left_edge-right : (n r : ℕ) (w : Slots) → FineOpen loud undrained r w → left_edge r n w ≤ n + edge_slots (erased_slots w)
  left_edge-right n r no_slot h = omega arith
  left_edge-right n r (slot g k (idle i) w) h = omega arith
  left_edge-right n r (slot g k (stored m) w) h = omega arith
  left_edge-right n r (slot g k (busy b t) w) h = omega (arith, stopped_cost-left r 0 b t (Stands-zero r b t h.0.0))
  left_edge-right n r (slot g k (held m a t c) w) h = omega (arith, left_edge-right (n + c) r w h.1)
  left_edge-right n r (slot g k (redone m b t i) w) h = absurd h.0
  left_edge-right n r (slot g k (again m a t c) w) h = absurd h.0
  left_edge-right n r (slot g k (drained m b t i e) w) h = absurd h.0.0

  pub left_edge-FineLater : (n r : ℕ) (w : Slots) → FineLater loud r w → left_edge r n w ≤ n + edge_slots (erased_slots w)
  left_edge-FineLater n r no_slot h = absurd h
  left_edge-FineLater n r (slot g k (idle i) w) h = absurd h
  left_edge-FineLater n r (slot g k (stored m) w) h = absurd h
  left_edge-FineLater n r (slot g k (busy b t) w) h = absurd h
  left_edge-FineLater n r (slot g k (held m a t c) w) h = omega (arith, left_edge-FineLater (n + c) r w h.1)
  left_edge-FineLater n r (slot g k (redone m b t i) w) h = omega (arith, stopped_cost-left r i b t h.0)
  left_edge-FineLater n r (slot g k (again m a t c) w) h = omega (arith, left_edge-right (n + c) r w h.1)
  left_edge-FineLater n r (slot g k (drained m b t i e) w) h = absurd h

  -- where the leftmost slot without an answer has failed, it is no less
  pub left_edge-failed : (n r : ℕ) (w : Slots) → FineOpen loud (past n) r w → before_failed answered_left w ≡ true → left_edge r n w ≡ n + edge_slots (erased_slots w)
  left_edge-failed n r no_slot h e = absurd (false≢true e)
  left_edge-failed n r (slot g k (idle i) w) h e = absurd (false≢true e)
  left_edge-failed n r (slot g k (stored m) w) h e = absurd (false≢true e)
  left_edge-failed n r (slot g k (busy b t) w) h e = omega (arith, stopped_cost-failed r 0 b t r h.0.0 (failed_here (is_failed b) e))
    where
      failed_here : (f : Bool) → (if f then true else false) ≡ true → f ≡ true
      failed_here true q = refl
      failed_here false q = q
  left_edge-failed n r (slot g k (held m a t c) w) h e = omega (arith, left_edge-failed (n + c) r w h.1 e)
  left_edge-failed n r (slot g k (redone m b t i) w) h e = absurd h.0
  left_edge-failed n r (slot g k (again m a t c) w) h e = absurd h.0
  left_edge-failed n r (slot g k (drained m b t i x) w) h e = omega (arith, stopped_cost-failed (r - (n + x)) i b t (i + (r - (n + x))) h.0.0.1 (failed_here (is_failed b) e))
    where
      failed_here : (f : Bool) → (if f then true else false) ≡ true → f ≡ true
      failed_here true q = refl
      failed_here false q = q

  -- ---- failed slots

  HasFailed-some_failed : (r : ℕ) (w : Slots) → FineOpen loud undrained r w → some_failed w ≡ true → HasFailed (erased_slots w)
  HasFailed-some_failed r no_slot h e = absurd (false≢true e)
  HasFailed-some_failed r (slot g k (idle i) w) h e = HasFailed-some_failed r w h.1 e
  HasFailed-some_failed r (slot g k (stored m) w) h e = HasFailed-some_failed r w h.1 e
  HasFailed-some_failed r (slot g k (busy b t) w) h e = elim (or_cases (is_failed b) (some_failed w) e) [ inl f ↦ inl (IsExhausted-Stands r b t h.0.0 f) | inr f ↦ inr (HasFailed-some_failed r w h.1 f) ]
  HasFailed-some_failed r (slot g k (held m a t c) w) h e = HasFailed-some_failed r w h.1 e
  HasFailed-some_failed r (slot g k (redone m b t i) w) h e = absurd h.0
  HasFailed-some_failed r (slot g k (again m a t c) w) h e = absurd h.0
  HasFailed-some_failed r (slot g k (drained m b t i n) w) h e = absurd h.0.0

  pub HasFailedLater-some_failed : (r : ℕ) (w : Slots) → FineLater loud r w → some_failed w ≡ true → HasFailedLater (erased_slots w)
  HasFailedLater-some_failed r no_slot h e = absurd h
  HasFailedLater-some_failed r (slot g k (idle i) w) h e = absurd h
  HasFailedLater-some_failed r (slot g k (stored m) w) h e = absurd h
  HasFailedLater-some_failed r (slot g k (busy b t) w) h e = absurd h
  HasFailedLater-some_failed r (slot g k (held m a t c) w) h e = HasFailedLater-some_failed r w h.1 e
  HasFailedLater-some_failed r (slot g k (redone m b t i) w) h e =
      elim (or_cases (is_failed b) (some_failed w) e) [ inl f ↦ inl (IsExhausted-Stands (i + r) b t h.0 f) | inr f ↦ absurd (some_failed-AreWaiting w h.2 f) ]
  HasFailedLater-some_failed r (slot g k (again m a t c) w) h e = HasFailed-some_failed r w h.1 e
  HasFailedLater-some_failed r (slot g k (drained m b t i n) w) h e = absurd h

  -- ---- the leftmost slot without an answer

  pub IsSlotSpent-right : (r : ℕ) (w : Slots) → FineOpen loud undrained r w → leftmost w ≡ Some Spent → IsSlotSpent r (erased_slots w)
  IsSlotSpent-right r no_slot h e = absurd (none-some _ e)
  IsSlotSpent-right r (slot g k (idle i) w) h e = absurd (none-some _ e)
  IsSlotSpent-right r (slot g k (stored m) w) h e = absurd (none-some _ e)
  IsSlotSpent-right r (slot g k (busy b t) w) h e = IsSpent-Stands r b t h.0.0 (spent_so b e)
  IsSlotSpent-right r (slot g k (held m a t c) w) h e = IsSlotSpent-right r w h.1 e
  IsSlotSpent-right r (slot g k (redone m b t i) w) h e = absurd h.0
  IsSlotSpent-right r (slot g k (again m a t c) w) h e = absurd h.0
  IsSlotSpent-right r (slot g k (drained m b t i n) w) h e = absurd h.0.0

  pub IsSlotSpent-FineLater : (r : ℕ) (w : Slots) → FineLater loud r w → leftmost w ≡ Some Spent → IsSlotSpent r (erased_slots w)
  IsSlotSpent-FineLater r no_slot h e = absurd h
  IsSlotSpent-FineLater r (slot g k (idle i) w) h e = absurd h
  IsSlotSpent-FineLater r (slot g k (stored m) w) h e = absurd h
  IsSlotSpent-FineLater r (slot g k (busy b t) w) h e = absurd h
  IsSlotSpent-FineLater r (slot g k (held m a t c) w) h e = IsSlotSpent-FineLater r w h.1 e
  IsSlotSpent-FineLater r (slot g k (redone m b t i) w) h e = IsSpent-Stands (i + r) b t h.0 (spent_so b e)
  IsSlotSpent-FineLater r (slot g k (again m a t c) w) h e = IsSlotSpent-right r w h.1 e
  IsSlotSpent-FineLater r (slot g k (drained m b t i n) w) h e = absurd h

  -- of a first round: a slot that was given all of the rest r, or a drained one, which was given what n leaves of it
  pub IsSlotSpent-FineOpen : (n r : ℕ) (w : Slots) → FineOpen loud (past n) r w → leftmost w ≡ Some Spent → IsSlotSpent r (erased_slots w) ⊎ ((n ≤ r) × IsDrainSpent (r - n) (erased_slots w))
  IsSlotSpent-FineOpen n r no_slot h e = absurd (none-some _ e)
  IsSlotSpent-FineOpen n r (slot g k (idle i) w) h e = absurd (none-some _ e)
  IsSlotSpent-FineOpen n r (slot g k (stored m) w) h e = absurd (none-some _ e)
  IsSlotSpent-FineOpen n r (slot g k (busy b t) w) h e = inl (IsSpent-Stands r b t h.0.0 (spent_so b e))
  IsSlotSpent-FineOpen n r (slot g k (held m a t c) w) h e =
      elim (IsSlotSpent-FineOpen (n + c) r w h.1 e) [ inl q ↦ inl q | inr q ↦ inr (omega (arith, q.0), (r - (n + c), omega (arith, q.0), q.1)) ]
  IsSlotSpent-FineOpen n r (slot g k (redone m b t i) w) h e = absurd h.0
  IsSlotSpent-FineOpen n r (slot g k (again m a t c) w) h e = absurd h.0
  IsSlotSpent-FineOpen n r (slot g k (drained m b t i x) w) h e =
      inr (omega (arith, h.0.0.0), (r - (n + x), omega (arith, h.0.0.0), IsSpent-Stands (i + (r - (n + x))) b t h.0.0.1 (spent_so b e)))

  pub IsSlotRaised-FineOpen : (z : Where) (r : ℕ) (w : Slots) (f : Fault) → FineOpen loud z r w → leftmost w ≡ Some (Raised f) → IsSlotRaised f (erased_slots w)
  IsSlotRaised-FineOpen z r no_slot f h e = absurd (none-some _ e)
  IsSlotRaised-FineOpen z r (slot g k (idle i) w) f h e = absurd (none-some _ e)
  IsSlotRaised-FineOpen z r (slot g k (stored m) w) f h e = absurd (none-some _ e)
  IsSlotRaised-FineOpen z r (slot g k (busy b t) w) f h e = IsRaised-Stands r b t f h.0.0 (raised_so b f e)
  IsSlotRaised-FineOpen z r (slot g k (held m a t c) w) f h e = IsSlotRaised-FineOpen (next_to z (held m a t c)) r w f h.1 e
  IsSlotRaised-FineOpen z r (slot g k (redone m b t i) w) f h e = absurd h.0
  IsSlotRaised-FineOpen z r (slot g k (again m a t c) w) f h e = absurd h.0
  IsSlotRaised-FineOpen z r (slot g k (drained m b t i x) w) f h e = let q = stands_somehow z r b t i x h.0.0 in IsRaised-Stands q.0 b t f q.1 (raised_so b f e)

  pub IsSlotRaised-FineLater : (r : ℕ) (w : Slots) (f : Fault) → FineLater loud r w → leftmost w ≡ Some (Raised f) → IsSlotRaised f (erased_slots w)
  IsSlotRaised-FineLater r no_slot f h e = absurd h
  IsSlotRaised-FineLater r (slot g k (idle i) w) f h e = absurd h
  IsSlotRaised-FineLater r (slot g k (stored m) w) f h e = absurd h
  IsSlotRaised-FineLater r (slot g k (busy b t) w) f h e = absurd h
  IsSlotRaised-FineLater r (slot g k (held m a t c) w) f h e = IsSlotRaised-FineLater r w f h.1 e
  IsSlotRaised-FineLater r (slot g k (redone m b t i) w) f h e = IsRaised-Stands (i + r) b t f h.0 (raised_so b f e)
  IsSlotRaised-FineLater r (slot g k (again m a t c) w) f h e = IsSlotRaised-FineOpen undrained r w f h.1 e
  IsSlotRaised-FineLater r (slot g k (drained m b t i x) w) f h e = absurd h

  -- ---- closed frames

  pub FineShut-FineOpen : (z : Where) (r : ℕ) (w : Slots) → FineOpen loud z r w → FineShut loud w
  FineShut-FineOpen z r no_slot h = tt
  FineShut-FineOpen z r (slot g k (idle i) w) h = (tt, FineShut-FineOpen (next_to z (idle i)) r w h.1)
  FineShut-FineOpen z r (slot g k (stored m) w) h = (tt, FineShut-FineOpen (next_to z (stored m)) r w h.1)
  FineShut-FineOpen z r (slot g k (busy b t) w) h = (tt, FineShut-FineOpen (next_to z (busy b t)) r w h.1)
  FineShut-FineOpen z r (slot g k (held m a t c) w) h = (h.0, FineShut-FineOpen (next_to z (held m a t c)) r w h.1)
  FineShut-FineOpen z r (slot g k (redone m b t i) w) h = absurd h.0
  FineShut-FineOpen z r (slot g k (again m a t c) w) h = absurd h.0
  FineShut-FineOpen z r (slot g k (drained m b t i e) w) h = (tt, FineShut-FineOpen (next_to z (drained m b t i e)) r w h.1)

  FineShut-AreWaiting : (w : Slots) → AreWaiting w → FineShut loud w
  FineShut-AreWaiting no_slot h = tt
  FineShut-AreWaiting (slot g k (idle Ready) w) h = absurd h
  FineShut-AreWaiting (slot g k (idle Waiting) w) h = (tt, FineShut-AreWaiting w h)
  FineShut-AreWaiting (slot g k (idle GivenBack) w) h = absurd h
  FineShut-AreWaiting (slot g k (stored m) w) h = (tt, FineShut-AreWaiting w h)
  FineShut-AreWaiting (slot g k (busy b t) w) h = absurd h
  FineShut-AreWaiting (slot g k (held m a t c) w) h = absurd h
  FineShut-AreWaiting (slot g k (redone m b t i) w) h = absurd h
  FineShut-AreWaiting (slot g k (again m a t c) w) h = absurd h
  FineShut-AreWaiting (slot g k (drained m b t i e) w) h = absurd h

  pub FineShut-FineLater : (r : ℕ) (w : Slots) → FineLater loud r w → FineShut loud w
  FineShut-FineLater r no_slot h = absurd h
  FineShut-FineLater r (slot g k (idle i) w) h = absurd h
  FineShut-FineLater r (slot g k (stored m) w) h = absurd h
  FineShut-FineLater r (slot g k (busy b t) w) h = absurd h
  FineShut-FineLater r (slot g k (held m a t c) w) h = (h.0, FineShut-FineLater r w h.1)
  FineShut-FineLater r (slot g k (redone m b t i) w) h = (tt, FineShut-AreWaiting w h.2)
  FineShut-FineLater r (slot g k (again m a t c) w) h = (h.0, FineShut-FineOpen undrained r w h.1)
  FineShut-FineLater r (slot g k (drained m b t i e) w) h = absurd h

  pub FineOpen-AreWaiting : (r : ℕ) (w : Slots) → AreWaiting w → FineOpen loud undrained r w
  FineOpen-AreWaiting r no_slot h = tt
  FineOpen-AreWaiting r (slot g k (idle Ready) w) h = absurd h
  FineOpen-AreWaiting r (slot g k (idle Waiting) w) h = (tt, FineOpen-AreWaiting r w h)
  FineOpen-AreWaiting r (slot g k (idle GivenBack) w) h = absurd h
  FineOpen-AreWaiting r (slot g k (stored m) w) h = (tt, FineOpen-AreWaiting r w h)
  FineOpen-AreWaiting r (slot g k (busy b t) w) h = absurd h
  FineOpen-AreWaiting r (slot g k (held m a t c) w) h = absurd h
  FineOpen-AreWaiting r (slot g k (redone m b t i) w) h = absurd h
  FineOpen-AreWaiting r (slot g k (again m a t c) w) h = absurd h
  FineOpen-AreWaiting r (slot g k (drained m b t i e) w) h = absurd h

  -- ---- a failed slot by which the frame breaks

  module _ (p : Program) (heeds : Heeds loud p) (b : ℕ) where
    harmless : (g : Tree) → not (loud g) ≡ true → IsHarmless (plain_ways p) g b
    harmless g e = heeds g (not-true (loud g) e) b

    pub HasFailedSafely-quiet : (z : Where) (r : ℕ) (w : Slots) → FineOpen loud z r w → before_failed (is_quiet loud) w ≡ true → HasFailedSafely (plain_ways p) b (erased_slots w)
    HasFailedSafely-quiet z r no_slot h e = absurd (false≢true e)
    HasFailedSafely-quiet z r (slot g k (idle i) w) h e =
        let q = and_parts (not (loud g)) (before_failed (is_quiet loud) w) e in (harmless g q.0, HasFailedSafely-quiet (next_to z (idle i)) r w h.1 q.1)
    HasFailedSafely-quiet z r (slot g k (stored m) w) h e =
        let q = and_parts (not (loud g)) (before_failed (is_quiet loud) w) e in (harmless g q.0, HasFailedSafely-quiet (next_to z (stored m)) r w h.1 q.1)
    HasFailedSafely-quiet z r (slot g k (busy x t) w) h e = go (is_failed x) refl e (λ f. HasFailedSafely-quiet (next_to z (busy x t)) r w h.1 f)
      where
        go : (f : Bool) → is_failed x ≡ f → (if f then true else (not (loud g) && before_failed (is_quiet loud) w)) ≡ true
            → (before_failed (is_quiet loud) w ≡ true → HasFailedSafely (plain_ways p) b (erased_slots w)) → HasFailedSafely (plain_ways p) b (erased_slots (slot g k (busy x t) w))
        go true f e rec = inl (IsExhausted-Stands r x t h.0.0 f)
        go false f e rec = let q = and_parts (not (loud g)) (before_failed (is_quiet loud) w) e in inr (harmless g q.0, rec q.1)
    HasFailedSafely-quiet z r (slot g k (held m a t c) w) h e =
        let q = and_parts (not (loud g)) (before_failed (is_quiet loud) w) e in (inr (harmless g q.0), HasFailedSafely-quiet (next_to z (held m a t c)) r w h.1 q.1)
    HasFailedSafely-quiet z r (slot g k (redone m x t i) w) h e = absurd h.0
    HasFailedSafely-quiet z r (slot g k (again m a t c) w) h e = absurd h.0
    HasFailedSafely-quiet z r (slot g k (drained m x t i n) w) h e = go (is_failed x) refl e
      where
        go : (f : Bool) → is_failed x ≡ f → (if f then true else (not (loud g) && before_failed (is_quiet loud) w)) ≡ true → IsExhausted (erased t)
        go true f e = let q = stands_somehow z r x t i n h.0.0 in IsExhausted-Stands q.0 x t q.1 f
        go false f e = let q = and_parts (not (loud g)) (before_failed (is_quiet loud) w) e in absurd (false≢true (sym (not-true (loud g) q.0) ∙ h.0.2))

    settled_held : (g : Tree) (t : Task) → not (loud g && not (is_exhausted t)) ≡ true → IsExhausted (erased t) ⊎ IsHarmless (plain_ways p) g b
    settled_held g t e = go (loud g) (is_exhausted t) refl refl e
      where
        go : (l x : Bool) → loud g ≡ l → is_exhausted t ≡ x → not (l && not x) ≡ true → IsExhausted (erased t) ⊎ IsHarmless (plain_ways p) g b
        go false x i j e = inr (heeds g i b)
        go true true i j e = inl (IsExhausted-erased t j)
        go true false i j e = absurd (false≢true e)

    pub HasFailedSafely-settled : (z : Where) (r : ℕ) (w : Slots) → FineOpen loud z r w → before_failed (is_settled loud) w ≡ true → HasFailedSafely (plain_ways p) b (erased_slots w)
    HasFailedSafely-settled z r no_slot h e = absurd (false≢true e)
    HasFailedSafely-settled z r (slot g k (idle i) w) h e = absurd (false≢true e)
    HasFailedSafely-settled z r (slot g k (stored m) w) h e = absurd (false≢true e)
    HasFailedSafely-settled z r (slot g k (busy x t) w) h e = go (is_failed x) refl e
      where
        go : (f : Bool) → is_failed x ≡ f → (if f then true else false) ≡ true → HasFailedSafely (plain_ways p) b (erased_slots (slot g k (busy x t) w))
        go true f e = inl (IsExhausted-Stands r x t h.0.0 f)
        go false f e = absurd (false≢true e)
    HasFailedSafely-settled z r (slot g k (held m a t c) w) h e =
        let q = and_parts (not (loud g && not (is_exhausted t))) (before_failed (is_settled loud) w) e in
        (settled_held g t q.0, HasFailedSafely-settled (next_to z (held m a t c)) r w h.1 q.1)
    HasFailedSafely-settled z r (slot g k (redone m x t i) w) h e = absurd h.0
    HasFailedSafely-settled z r (slot g k (again m a t c) w) h e = absurd h.0
    HasFailedSafely-settled z r (slot g k (drained m x t i n) w) h e = go (is_failed x) refl e
      where
        go : (f : Bool) → is_failed x ≡ f → (if f then true else false) ≡ true → IsExhausted (erased t)
        go true f e = let q = stands_somehow z r x t i n h.0.0 in IsExhausted-Stands q.0 x t q.1 f
        go false f e = absurd (false≢true e)

  -- ---- what is redone next

  -- the erased slot that is redone, and those behind it begun anew
  redone_slot : (r : ℕ) (g : Tree) (k : Bool) (m : List Answer) (a : Answer) (t : Task) (u : Slots) (v : laws.Slots) → FineHeldTask loud t → v ≡ erased_slots u
      → laws.redone g (map plain_answer m ++ plain_answer a ∷ []) (erased t) (left (erased t)) v
      ≡ erased_slots (slot g k (redone (m ++ a ∷ []) Running (given r t) (spent_by t)) u)
  redone_slot r g k m a t u v h i =
      let e : left (erased t) ≡ spent_by t = left-FineHeldTask t h in
      let q : map plain_answer (m ++ a ∷ []) ≡ map plain_answer m ++ plain_answer a ∷ [] = map-append plain_answer m (a ∷ []) in
      let d : erased (given r t) ≡ erased t = erased-given r t in
      cc

  module _ (A : Ways) (b : ℕ) where
    abbrev pub Redoes : Slots → Slots → Type 0
    Redoes w u = (v : laws.Slots) × NextRedo (erased_slots w) v × Star (Spin A b) v (erased_slots u)

    -- behind the redone slot records are given up
    put_away_behind : (r : ℕ) (g : Tree) (k : Bool) (m : List Answer) (a : Answer) (t : Task) (w : Slots) → FineHeldTask loud t
        → Star (Spin A b) (laws.redone g (map plain_answer m ++ plain_answer a ∷ []) (erased t) (left (erased t)) (resets (erased_slots w)))
        (erased_slots (slot g k (redone (m ++ a ∷ []) Running (given r t) (spent_by t)) (all_put_away w)))
    put_away_behind r g k m a t w h =
        subst (λ v. Star (Spin A b) (laws.redone g (map plain_answer m ++ plain_answer a ∷ []) (erased t) (left (erased t)) (resets (erased_slots w))) v)
        (redone_slot r g k m a t (all_put_away w) (erased_slots (all_put_away w)) h refl)
        (Star-map Forgets (Spin A b) (laws.redone g (map plain_answer m ++ plain_answer a ∷ []) (erased t) (left (erased t))) (λ x y d. events.forgets_right d) (resets (erased_slots w)) (Forgets-all_put_away w))

    pub Redoes-redo_from : (r : ℕ) (w : Slots) → some_has_more w ≡ true → IsShut (erased_slots w) → FineShut loud w → Redoes w (redo_from r w)
    Redoes-redo_from r no_slot e h f = absurd (false≢true e)
    Redoes-redo_from r (slot g k (idle i) w) e h f = absurd h
    Redoes-redo_from r (slot g k (stored m) w) e h f = absurd h
    Redoes-redo_from r (slot g k (busy x t) w) e h f = absurd h
    Redoes-redo_from r (slot g k (redone m x t i) w) e h f = absurd (some_has_more-IsUntouched w h.1 e)
    Redoes-redo_from r (slot g k (drained m x t i n) w) e h f = absurd h
    Redoes-redo_from r (slot g k (held m a t c) w) e h f = go (some_has_more w) refl (λ q. Redoes-redo_from r w q h f.1)
      where
        go : (o : Bool) → some_has_more w ≡ o → (some_has_more w ≡ true → (v : laws.Slots) × NextRedo (erased_slots w) v × Star (Spin A b) v (erased_slots (redo_from r w)))
            → (v : laws.Slots) × NextRedo (erased_slots (slot g k (held m a t c) w)) v
            × Star (Spin A b) v (erased_slots (if o then slot g k (kept (held m a t c)) (redo_from r w) else slot g k (restarted_with r (held m a t c)) (all_put_away w)))
        go true q rec =
            let d = rec q in (
              laws.held g (map plain_answer m ++ plain_answer a ∷ []) (plain_answer a) (erased t) 0 d.0,
              over_held d.1,
              Star-map (Spin A b) (Spin A b) (laws.held g (map plain_answer m ++ plain_answer a ∷ []) (plain_answer a) (erased t) 0) (λ x y s. events.left_of s) d.0 d.2,
            )
        go false q rec = (
          laws.redone g (map plain_answer m ++ plain_answer a ∷ []) (erased t) (left (erased t)) (resets (erased_slots w)),
          next_held (HasNoAlternative-some_has_more w q h) (more_left t (elim (or_cases (not (is_exhausted t)) (some_has_more w) e) [ inl y ↦ y | inr y ↦ absurd (false≢true (sym q ∙ y)) ])),
          put_away_behind r g k m a t w f.0,
        )
    Redoes-redo_from r (slot g k (again m a t c) w) e h f = go (some_has_more w) refl (λ q. Redoes-redo_from r w q h f.1)
      where
        go : (o : Bool) → some_has_more w ≡ o → (some_has_more w ≡ true → (v : laws.Slots) × NextRedo (erased_slots w) v × Star (Spin A b) v (erased_slots (redo_from r w)))
            → (v : laws.Slots) × NextRedo (erased_slots (slot g k (again m a t c) w)) v
            × Star (Spin A b) v (erased_slots (if o then slot g k (kept (again m a t c)) (redo_from r w) else slot g k (restarted_with r (again m a t c)) (all_put_away w)))
        go true q rec =
            let d = rec q in (
              laws.held g (map plain_answer m ++ plain_answer a ∷ []) (plain_answer a) (erased t) 0 d.0,
              over_again d.1,
              Star-map (Spin A b) (Spin A b) (laws.held g (map plain_answer m ++ plain_answer a ∷ []) (plain_answer a) (erased t) 0) (λ x y s. events.left_of s) d.0 d.2,
            )
        go false q rec = (
          laws.redone g (map plain_answer m ++ plain_answer a ∷ []) (erased t) (left (erased t)) (resets (erased_slots w)),
          next_again (HasNoAlternative-some_has_more w q h) (more_left t (elim (or_cases (not (is_exhausted t)) (some_has_more w) e) [ inl y ↦ y | inr y ↦ absurd (false≢true (sym q ∙ y)) ])),
          put_away_behind r g k m a t w f.0,
        )

  pub FineLater-redo_from : (r : ℕ) (w : Slots) → some_has_more w ≡ true → IsShut (erased_slots w) → FineShut loud w → FineLater loud r (redo_from r w)
  FineLater-redo_from r no_slot e h f = absurd (false≢true e)
  FineLater-redo_from r (slot g k (idle i) w) e h f = absurd h
  FineLater-redo_from r (slot g k (stored m) w) e h f = absurd h
  FineLater-redo_from r (slot g k (busy b t) w) e h f = absurd h
  FineLater-redo_from r (slot g k (redone m b t i) w) e h f = absurd (some_has_more-IsUntouched w h.1 e)
  FineLater-redo_from r (slot g k (drained m b t i n) w) e h f = absurd h
  FineLater-redo_from r (slot g k (held m a t c) w) e h f = go (some_has_more w) refl (λ q. FineLater-redo_from r w q h f.1)
    where
      go : (b : Bool) → some_has_more w ≡ b → (some_has_more w ≡ true → FineLater loud r (redo_from r w))
          → FineLater loud r (if b then slot g k (kept (held m a t c)) (redo_from r w) else slot g k (restarted_with r (held m a t c)) (all_put_away w))
      go true q rec = (f.0, rec q)
      go false q rec = (IsGiven-given r t, Fine-given r t f.0, AreWaiting-all_put_away w)
  FineLater-redo_from r (slot g k (again m a t c) w) e h f = go (some_has_more w) refl (λ q. FineLater-redo_from r w q h f.1)
    where
      go : (b : Bool) → some_has_more w ≡ b → (some_has_more w ≡ true → FineLater loud r (redo_from r w))
          → FineLater loud r (if b then slot g k (kept (again m a t c)) (redo_from r w) else slot g k (restarted_with r (again m a t c)) (all_put_away w))
      go true q rec = (f.0, rec q)
      go false q rec = (IsGiven-given r t, Fine-given r t f.0, AreWaiting-all_put_away w)
