-- Each event keeps the invariant.
use Rattle.std.proofs.Common.{◌≡◌, ℕ, ◌+◌, ◌-◌, ◌<◌, ◌≤◌, ◌⊎◌, inl, inr, List, [], ◌∷◌, ◌++◌, refl, ap, ap₂, sym, ◌∙◌, subst, arith, append-nil, le_refl}
use Rattle.ap_term.specs.Tree.{Tree, Trees, none, more, append_trees}
use Rattle.ap_term.specs.Independence.{IsApart, AreApart}
use Rattle.ap_term.specs.Vars.{Local, LocalAll}
use Rattle.ap_laws.specs.Plain.{Plain, state, faulted, Ways, IsAnswer, IsEnded, next_of, steps_of, plain_children_by, Renames, Locals, IsPlainBelow}
use Rattle.ap_laws.specs.Trace.{answers_in, trace, trace_to, traces, AllAnswers, NoAnswers}
use Rattle.ap_laws.specs.Graft.{alone, graft, grafts, IsOf, AreOf, IsDead, IsHarmless, IsBarren}
use Rattle.ap_laws.specs.Gives.{Thins, GivesAt, Gives}
use Rattle.ap_laws.specs.Tasks.{Round, first, later, closed, Task, task, Alternatives, exhausted, plain, frame, Slots, no_slot, fresh, stored, busy, held, redone, again, drained, joined_if, flat_task, flat_alternatives, flat_slots, left, edge_alternatives, edge_slots, slot_goals}
use Rattle.ap_laws.specs.Events.{IsExhausted, plains, freshes, joined, IsFull, HasFailed, HasFailedSafely, HasFailedLater, HasNoAlternative, IsUntouched, IsUsedUp, resets, NextRedo, next_busy, next_redone, next_held, next_again, over_fresh, over_stored, over_busy, over_redone, over_held, over_again, Step, infer, fork, in_first, in_later, join_first, join_later, break_first, break_later, dropped, redo, Turn, start, given_back, forgets, replays, past_stored, inside, answers, past_fresh, past_busy, inside_drained, throws, past_drained, drain, Drains, drain_here, drain_past, Spin, inside_redone, answers_redone, forgets_right, Forgets, forget_here, forget_past_fresh, forget_past_stored, right_of, left_of}
use Rattle.ap_laws.proofs.Invariant.{base, base_alternatives, base_slots, cost, cost_alternatives, cost_slots, IsForkOf, IsQuiet, IsQuietTask, HasGiven, AreLive, HasDrained, IsWhole, IsShut, HasBegun, Strong, Pivot, Weak, TaskInvariant, AlternativesInvariant, Effect, IsStuck, Redo, redo_held, redo_again, past_held, past_again}
use Rattle.ap_laws.proofs.Graft.{IsOf-alone, graft-alone}
use Rattle.ap_laws.proofs.Traces.{answers_in-append, answers_in-Every, AllAnswers-left_over, AllAnswers-done, Every-below, Every-answers_in, AllAnswers-append, AllAnswers-and, AllAnswers-IsOf, AllAnswers-left, AllAnswers-right, NoAnswers-below, AreOf-plain_children}
use Rattle.ap_laws.proofs.Dead.{AllAnswers-weaken, NoAnswers-followed, trace-split}
use Rattle.std.specs.List.{AllByRecursion}
use Rattle.ap_laws.proofs.Gives.{Gives-thin, Thins-answers_in, answers_in-Thins, answers_in-none, NoAnswers-none, Gives-then, Gives-beside, Gives-none, Gives-less, Gives-answer, Gives-infer, Gives-graft, Gives-drop, graft-answer}
use Rattle.ap_laws.proofs.Flat.{IsPlainBelow-IsOf, minus-le, more_than, next_of-le, Gives-Strong, AreOf-flat_task, Weak-Strong, Weak-Pivot, AreOf-flat_slots, AreOf-base, Gives-flat_task, Gives-flat_alternatives}

pub base_alternatives-IsQuiet : (l : Alternatives) → IsQuiet l → base_alternatives l ≡ flat_alternatives l
base_alternatives-IsQuiet exhausted q = refl
base_alternatives-IsQuiet (plain s l) q = refl
base_alternatives-IsQuiet (frame s first w l) q = cc
base_alternatives-IsQuiet (frame s later w l) q = cc
base_alternatives-IsQuiet (frame s closed w l) q = refl

pub cost_alternatives-IsQuiet : (l : Alternatives) → IsQuiet l → cost_alternatives l ≡ 0
cost_alternatives-IsQuiet exhausted q = refl
cost_alternatives-IsQuiet (plain s l) q = refl
cost_alternatives-IsQuiet (frame s first w l) q = refl
cost_alternatives-IsQuiet (frame s later w l) q = cc
cost_alternatives-IsQuiet (frame s closed w l) q = refl

pub edge_alternatives-IsQuiet : (l : Alternatives) → IsQuiet l → edge_alternatives l ≡ 0
edge_alternatives-IsQuiet exhausted q = refl
edge_alternatives-IsQuiet (plain s l) q = refl
edge_alternatives-IsQuiet (frame s first w l) q = cc
edge_alternatives-IsQuiet (frame s later w l) q = cc
edge_alternatives-IsQuiet (frame s closed w l) q = refl

pub flat_alternatives-plains : (m : List Plain) (l : Alternatives) → flat_alternatives (plains m l) ≡ m ++ flat_alternatives l
flat_alternatives-plains [] l = refl
flat_alternatives-plains (s ∷ m) l = ap (λ z. s ∷ z) (flat_alternatives-plains m l)

pub base_alternatives-plains : (m : List Plain) (l : Alternatives) → IsQuiet l → base_alternatives (plains m l) ≡ m ++ flat_alternatives l
base_alternatives-plains [] l q = base_alternatives-IsQuiet l q
base_alternatives-plains (s ∷ m) l q = ap (λ z. s ∷ z) (flat_alternatives-plains m l)

pub cost_alternatives-plains : (m : List Plain) (l : Alternatives) → IsQuiet l → cost_alternatives (plains m l) ≡ 0
cost_alternatives-plains [] l q = cost_alternatives-IsQuiet l q
cost_alternatives-plains (s ∷ m) l q = refl

pub IsQuiet-plains : (m : List Plain) (l : Alternatives) → IsQuiet l → IsQuiet (plains m l)
IsQuiet-plains [] l q = q
IsQuiet-plains (s ∷ m) l q = IsQuiet-plains m l q

pub slot_goals-freshes : (gs : Trees) → slot_goals (freshes gs) ≡ gs
slot_goals-freshes none = refl
slot_goals-freshes (more g gs) = ap (more g) (slot_goals-freshes gs)

pub LocalAll-append_left : (P : ℕ → Type 0) (ts us : Trees) → LocalAll P (append_trees ts us) → LocalAll P ts
LocalAll-append_left P none us h = tt
LocalAll-append_left P (more t ts) us h = (h.0, LocalAll-append_left P ts us h.1)

pub slot_goals-resets : (w : Slots) → slot_goals (resets w) ≡ slot_goals w
slot_goals-resets no_slot = refl
slot_goals-resets (fresh g w) = ap (more g) (slot_goals-resets w)
slot_goals-resets (stored g m w) = ap (more g) (slot_goals-resets w)
slot_goals-resets (busy g t w) = ap (more g) (slot_goals-resets w)
slot_goals-resets (held g m a t c w) = ap (more g) (slot_goals-resets w)
slot_goals-resets (redone g m t i w) = ap (more g) (slot_goals-resets w)
slot_goals-resets (again g m a t c w) = ap (more g) (slot_goals-resets w)
slot_goals-resets (drained g m t i e w) = ap (more g) (slot_goals-resets w)

pub slot_goals-Redo : {w v : Slots} → Redo w v → slot_goals v ≡ slot_goals w
slot_goals-Redo (redo_held {g = g} {w = w} q) = ap (more g) (slot_goals-resets w)
slot_goals-Redo (redo_again {g = g} {w = w} q) = ap (more g) (slot_goals-resets w)
slot_goals-Redo (past_held {g = g} r) = ap (more g) (slot_goals-Redo r)
slot_goals-Redo (past_again {g = g} r) = ap (more g) (slot_goals-Redo r)

pub flat_task-IsExhausted : (t : Task) → IsExhausted t → flat_task t ≡ []
flat_task-IsExhausted (task c exhausted) h = refl
flat_task-IsExhausted (task c (plain s l)) h = absurd h
flat_task-IsExhausted (task c (frame s r w l)) h = absurd h

pub flat_slots-IsUsedUp : (w : Slots) (b : ℕ) (s : Plain) → IsUsedUp w → flat_slots w closed b s ≡ []
flat_slots-IsUsedUp no_slot b s q = refl
flat_slots-IsUsedUp (fresh g w) b s q = absurd q
flat_slots-IsUsedUp (stored g m w) b s q = absurd q
flat_slots-IsUsedUp (busy g t w) b s q = absurd q
flat_slots-IsUsedUp (held g m a t c w) b s q = ap₂ (λ x y. x ++ grafts b s y) (flat_slots-IsUsedUp w b (graft b s a) q.1) (flat_task-IsExhausted t q.0)
flat_slots-IsUsedUp (redone g m t i w) b s q = ap (grafts b s) (flat_task-IsExhausted t q.0)
flat_slots-IsUsedUp (drained g m t i e w) b s q = absurd q
flat_slots-IsUsedUp (again g m a t c w) b s q = ap₂ (λ x y. x ++ grafts b s y) (flat_slots-IsUsedUp w b (graft b s a) q.1) (flat_task-IsExhausted t q.0)

pub flat_slots-IsFull : (r : Round) → ((s : Plain) → joined_if r s ≡ s ∷ []) → (w : Slots) (b : ℕ) (s : Plain) → IsFull w → flat_slots w r b s ≡ joined w b s ∷ flat_slots w closed b s
flat_slots-IsFull r e no_slot b s q = e s
flat_slots-IsFull r e (fresh g w) b s q = absurd q
flat_slots-IsFull r e (stored g m w) b s q = absurd q
flat_slots-IsFull r e (busy g t w) b s q = absurd q
flat_slots-IsFull r e (held g m a t c w) b s q = ap (λ z. z ++ grafts b s (flat_task t)) (flat_slots-IsFull r e w b (graft b s a) q)
flat_slots-IsFull r e (redone g m t i w) b s q = absurd q
flat_slots-IsFull r e (drained g m t i x w) b s q = absurd q
flat_slots-IsFull r e (again g m a t c w) b s q = ap (λ z. z ++ grafts b s (flat_task t)) (flat_slots-IsFull r e w b (graft b s a) q)

pub flat_slots-IsStuck : (w : Slots) (b : ℕ) (s : Plain) → IsStuck w → flat_slots w later b s ≡ flat_slots w closed b s
flat_slots-IsStuck no_slot b s q = absurd q
flat_slots-IsStuck (fresh g w) b s q = refl
flat_slots-IsStuck (stored g m w) b s q = refl
flat_slots-IsStuck (busy g t w) b s q = refl
flat_slots-IsStuck (held g m a t c w) b s q = ap (λ z. z ++ grafts b s (flat_task t)) (flat_slots-IsStuck w b (graft b s a) q)
flat_slots-IsStuck (redone g m t i w) b s q = refl
flat_slots-IsStuck (drained g m t i x w) b s q = refl
flat_slots-IsStuck (again g m a t c w) b s q = ap (λ z. z ++ grafts b s (flat_task t)) (flat_slots-IsStuck w b (graft b s a) q)

pub base-IsQuietTask : (t : Task) → IsQuietTask t → base t ≡ flat_task t
base-IsQuietTask (task c l) q = base_alternatives-IsQuiet l q

pub cost-IsQuietTask : (t : Task) → IsQuietTask t → cost t ≡ left t
cost-IsQuietTask (task c l) q = ap (λ z. c + z) (cost_alternatives-IsQuiet l q ∙ sym (edge_alternatives-IsQuiet l q))

pub minus-same : (a b : ℕ) → a ≡ b → a - b ≡ 0
minus-same a b e = omega arith

-- in a closed frame the rightmost slot with an alternative has nothing but answers left of it, and nothing to read right of it
pub NextRedo-IsUntouched : {w v : Slots} → NextRedo w v → IsUntouched w → ⊥
NextRedo-IsUntouched (next_busy q n) h = h
NextRedo-IsUntouched (next_redone q n) h = h
NextRedo-IsUntouched (next_held q n) h = h
NextRedo-IsUntouched (next_again q n) h = h
NextRedo-IsUntouched (over_fresh r) h = NextRedo-IsUntouched r h
NextRedo-IsUntouched (over_stored r) h = NextRedo-IsUntouched r h
NextRedo-IsUntouched (over_busy r) h = h
NextRedo-IsUntouched (over_redone r) h = h
NextRedo-IsUntouched (over_held r) h = h
NextRedo-IsUntouched (over_again r) h = h

pub IsUsedUp-IsShut : (w : Slots) → IsShut w → HasNoAlternative w → IsUsedUp w
IsUsedUp-IsShut no_slot h q = tt
IsUsedUp-IsShut (fresh g w) h q = absurd h
IsUsedUp-IsShut (stored g m w) h q = absurd h
IsUsedUp-IsShut (busy g t w) h q = absurd h
IsUsedUp-IsShut (drained g m t i e w) h q = absurd h
IsUsedUp-IsShut (held g m a t c w) h q = (q.0, IsUsedUp-IsShut w h q.1)
IsUsedUp-IsShut (redone g m t i w) h q = h
IsUsedUp-IsShut (again g m a t c w) h q = (q.0, IsUsedUp-IsShut w h q.1)

pub Redo-IsShut : {w v : Slots} → NextRedo w v → IsShut w → Redo w v
Redo-IsShut (next_busy q n) h = absurd h
Redo-IsShut (next_redone q n) h = absurd (n h.0)
Redo-IsShut (next_held {w = w} q n) h = redo_held (IsUsedUp-IsShut w h q)
Redo-IsShut (next_again {w = w} q n) h = redo_again (IsUsedUp-IsShut w h q)
Redo-IsShut (over_fresh r) h = absurd h
Redo-IsShut (over_stored r) h = absurd h
Redo-IsShut (over_busy r) h = absurd h
Redo-IsShut (over_redone r) h = absurd (NextRedo-IsUntouched r h.1)
Redo-IsShut (over_held r) h = past_held (Redo-IsShut r h)
Redo-IsShut (over_again r) h = past_again (Redo-IsShut r h)

pub IsUntouched-resets : (w : Slots) → IsUntouched (resets w)
IsUntouched-resets no_slot = tt
IsUntouched-resets (fresh g w) = IsUntouched-resets w
IsUntouched-resets (stored g m w) = IsUntouched-resets w
IsUntouched-resets (busy g t w) = IsUntouched-resets w
IsUntouched-resets (held g m a t c w) = IsUntouched-resets w
IsUntouched-resets (redone g m t i w) = IsUntouched-resets w
IsUntouched-resets (again g m a t c w) = IsUntouched-resets w
IsUntouched-resets (drained g m t i e w) = IsUntouched-resets w

slot_goals-Forgets : {w v : Slots} → Forgets w v → slot_goals v ≡ slot_goals w
slot_goals-Forgets forget_here = refl
slot_goals-Forgets (forget_past_fresh {g = g} f) = ap (more g) (slot_goals-Forgets f)
slot_goals-Forgets (forget_past_stored {g = g} f) = ap (more g) (slot_goals-Forgets f)

IsUntouched-Forgets : {w v : Slots} → Forgets w v → IsUntouched w → IsUntouched v
IsUntouched-Forgets forget_here u = u
IsUntouched-Forgets (forget_past_fresh f) u = IsUntouched-Forgets f u
IsUntouched-Forgets (forget_past_stored f) u = IsUntouched-Forgets f u

pub HasBegun-Redo : {w v : Slots} → Redo w v → HasBegun v
HasBegun-Redo (redo_held {w = w} q) = IsUntouched-resets w
HasBegun-Redo (redo_again {w = w} q) = IsUntouched-resets w
HasBegun-Redo (past_held r) = HasBegun-Redo r
HasBegun-Redo (past_again r) = HasBegun-Redo r

pub IsShut-IsFull : (w : Slots) → IsFull w → IsShut w
IsShut-IsFull no_slot h = tt
IsShut-IsFull (fresh g w) h = absurd h
IsShut-IsFull (stored g m w) h = absurd h
IsShut-IsFull (busy g t w) h = absurd h
IsShut-IsFull (held g m a t c w) h = IsShut-IsFull w h
IsShut-IsFull (redone g m t i w) h = absurd h
IsShut-IsFull (drained g m t i e w) h = absurd h
IsShut-IsFull (again g m a t c w) h = IsShut-IsFull w h

pub HasFailed-IsUntouched : (w : Slots) → IsUntouched w → HasFailed w → ⊥
HasFailed-IsUntouched no_slot h f = f
HasFailed-IsUntouched (fresh g w) h f = HasFailed-IsUntouched w h f
HasFailed-IsUntouched (stored g m w) h f = HasFailed-IsUntouched w h f
HasFailed-IsUntouched (busy g t w) h f = h
HasFailed-IsUntouched (held g m a t c w) h f = h
HasFailed-IsUntouched (redone g m t i w) h f = h
HasFailed-IsUntouched (again g m a t c w) h f = h
HasFailed-IsUntouched (drained g m t i e w) h f = h

pub IsStuck-IsShut : (w : Slots) → HasFailedLater w → IsShut w → IsStuck w
IsStuck-IsShut no_slot f h = absurd f
IsStuck-IsShut (fresh g w) f h = tt
IsStuck-IsShut (stored g m w) f h = tt
IsStuck-IsShut (busy g t w) f h = tt
IsStuck-IsShut (held g m a t c w) f h = IsStuck-IsShut w f h
IsStuck-IsShut (redone g m t i w) f h = tt
IsStuck-IsShut (drained g m t i e w) f h = tt
IsStuck-IsShut (again g m a t c w) f h = behind w f h
  where
    behind : (w : Slots) → HasFailed w → IsShut w → IsStuck w
    behind no_slot f h = absurd f
    behind (fresh g w) f h = tt
    behind (stored g m w) f h = tt
    behind (busy g t w) f h = tt
    behind (held g m a t c w) f h = behind w f h
    behind (redone g m t i w) f h = tt
    behind (drained g m t i e w) f h = tt
    behind (again g m a t c w) f h = absurd f

module _ (A : Ways) (renames : Renames A) (locals : Locals A) where
  -- a goal whose search is known to give nothing
  pub IsDead-Gives : (g : Tree) (b c : ℕ) → Gives A (alone g b ∷ []) [] [] c → IsDead A g b
  IsDead-Gives g b c h r = NoAnswers-below A r h.0 (alone g b) (at (h.1 (r + h.0) (omega arith)))
    where
      at : GivesAt A (r + h.0) (alone g b ∷ []) [] [] c → NoAnswers (trace A (r + h.0) (alone g b))
      at x = AllAnswers-left (λ a l. ⊥) (trace A (r + h.0) (alone g b)) []
          (subst (λ z. NoAnswers (trace A z (alone g b) ++ [])) (lem (r + h.0))
          (subst NoAnswers (sym x.2) (AllAnswers-append (λ a l. ⊥) x.0 x.1 (NoAnswers-none x.0 x.3) (NoAnswers-none x.1 (answers_in-Thins x.5)))))
        where
          lem : (d : ℕ) → d - 0 ≡ d
          lem d = omega arith

  -- a goal that has answered isn't dead
  pub IsDead-answered : (g : Tree) (b c : ℕ) (T : Trees) (n k : ℕ) (l : List Plain) → Gives A (alone g b ∷ []) [] (state none T n k ∷ l) c → IsDead A g b → ⊥
  unfolding trace
  IsDead-answered g b c T n k l h dead = at (h.1 h.0 (le_refl h.0))
    where
      at : GivesAt A h.0 (alone g b ∷ []) [] (state none T n k ∷ l) c → ⊥
      at x = no_first (sym (answers_in-Thins x.5) ∙ answers_in-none x.1 (AllAnswers-right (λ a l. ⊥) x.0 x.1 (subst NoAnswers x.2 (AllAnswers-append (λ a l. ⊥) (trace_to A h.0 (alone g b)) [] (dead (h.0 - 0)) tt))))
        where
          no_first : {s : Plain} {l : List Plain} → s ∷ l ≡ [] → ⊥
          no_first e = cc

  pub AreLive-IsFull : (w : Slots) (b : ℕ) → IsFull w → Strong A b w → AreLive A b (slot_goals w)
  AreLive-IsFull no_slot b f h = tt
  AreLive-IsFull (fresh g w) b f h = absurd f
  AreLive-IsFull (stored g m w) b f h = absurd f
  AreLive-IsFull (busy g t w) b f h = absurd f
  AreLive-IsFull (held g m (state none T n k) t c w) b f h = ((λ d. IsDead-answered g b c T n k (flat_task t) h.4 d), AreLive-IsFull w b f h.5)
  AreLive-IsFull (held g m (state (more u us) T n k) t c w) b f h = absurd h.3.0
  AreLive-IsFull (held g m (faulted e k) t c w) b f h = absurd h.3.0
  AreLive-IsFull (redone g m t i w) b f h = absurd f
  AreLive-IsFull (drained g m t i e w) b f h = absurd f
  AreLive-IsFull (again g m a t c w) b f h = absurd h

  -- a goal that began anew can't fail
  pub AreLive-HasFailed : (w : Slots) (b : ℕ) → HasFailed w → Strong A b w → AreLive A b (slot_goals w) → ⊥
  AreLive-HasFailed no_slot b f h v = f
  AreLive-HasFailed (fresh g w) b f h v = AreLive-HasFailed w b f h.1 v.1
  AreLive-HasFailed (stored g m w) b f h v = AreLive-HasFailed w b f h.2 v.1
  AreLive-HasFailed (busy g t w) b (inr f) h v = AreLive-HasFailed w b f h.3 v.1
  AreLive-HasFailed (busy g t w) b (inl f) h v =
      let q = Gives-flat_task A renames locals t g b h.1 in
      v.0 (IsDead-Gives g b (cost t + q.0)
      (subst (λ z. Gives A (alone g b ∷ []) [] z (cost t + q.0)) (flat_task-IsExhausted t f) (Gives-then A (alone g b ∷ []) [] (base t) [] (flat_task t) (cost t) q.0 h.2 q.1)))
  AreLive-HasFailed (held g m a t c w) b f h v = AreLive-HasFailed w b f h.5 v.1
  AreLive-HasFailed (redone g m t i w) b f h v = f
  AreLive-HasFailed (drained g m t i e w) b f h v = f
  AreLive-HasFailed (again g m a t c w) b f h v = f

  pub IsShut-HasFailedLater : (w : Slots) (b : ℕ) → HasFailedLater w → Pivot A b w → HasBegun w → AreLive A b (slot_goals w) → IsShut w
  IsShut-HasFailedLater no_slot b f p u v = absurd f
  IsShut-HasFailedLater (fresh g w) b f p u v = absurd f
  IsShut-HasFailedLater (stored g m w) b f p u v = absurd f
  IsShut-HasFailedLater (busy g t w) b f p u v = absurd f
  IsShut-HasFailedLater (drained g m t i e w) b f p u v = absurd f
  IsShut-HasFailedLater (held g m a t c w) b f p u v = IsShut-HasFailedLater w b f p.4 u v.1
  IsShut-HasFailedLater (redone g m t i w) b (inl f) p u v = (f, u)
  IsShut-HasFailedLater (redone g m t i w) b (inr f) p u v = absurd (HasFailed-IsUntouched w u f)
  IsShut-HasFailedLater (again g m a t c w) b f p u v = absurd (AreLive-HasFailed w b f p.4 v.1)

  pub HasBegun-Spin : {b : ℕ} {w v : Slots} → Spin A b w v → HasBegun w → HasBegun v
  HasBegun-Spin (inside_redone s) u = u
  HasBegun-Spin answers_redone u = tt
  HasBegun-Spin (forgets_right f) u = IsUntouched-Forgets f u
  HasBegun-Spin (right_of x) u = tt
  HasBegun-Spin (left_of x) u = HasBegun-Spin x u

  -- a goal whose search is over has no fault to any depth
  IsHarmless-over : (g : Tree) (b c : ℕ) (a : Plain) → IsAnswer a → Gives A (alone g b ∷ []) [] (a ∷ []) c → IsHarmless A g b
  unfolding trace
  IsHarmless-over g b c (state (more u us) T n k) e h r = absurd e
  IsHarmless-over g b c (faulted i k) e h r = absurd e
  IsHarmless-over g b c (state none T n k) e h r = Every-below IsAnswer A r h.0 (alone g b) (at (h.1 (r + h.0) (omega arith)))
    where
      at : GivesAt A (r + h.0) (alone g b ∷ []) [] (state none T n k ∷ []) c → AllAnswers (λ a l. IsAnswer a) (trace A (r + h.0) (alone g b))
      at x = AllAnswers-left (λ a l. IsAnswer a) (trace A (r + h.0) (alone g b)) []
          (subst (λ z. AllAnswers (λ a l. IsAnswer a) (trace A z (alone g b) ++ [])) (lem (r + h.0))
          (subst (AllAnswers (λ a l. IsAnswer a)) (sym x.2) (AllAnswers-append (λ a l. IsAnswer a) x.0 x.1 (AllAnswers-weaken (λ a l. ⊥) (λ a l. IsAnswer a) (λ a l z. absurd z) x.0 (NoAnswers-none x.0 x.3)) (Every-answers_in IsAnswer x.1 (subst (AllByRecursion IsAnswer) (sym (answers_in-Thins x.5)) (tt, tt))))))
        where
          lem : (d : ℕ) → d - 0 ≡ d
          lem d = omega arith

  -- a goal without a fault before goals from which nothing comes
  IsBarren-more : (g : Tree) (gs : Trees) (b : ℕ) → Local (λ x. x < b) g → IsHarmless A g b → IsApart g gs → IsBarren A b gs → IsBarren A b (more g gs)
  IsBarren-more g gs b hg harmless apart barren K T n k bn o r =
      subst NoAnswers (sym (trace-split A renames locals g (append_trees gs K) T b n k r bn o hg))
      (NoAnswers-followed (trace A r (alone g b)) (λ a l. trace A l (graft b s a))
      (AllAnswers-weaken (λ a l. IsOf g b a × IsAnswer a) (λ a l. NoAnswers (trace A l (graft b s a))) (λ a l q. each a l q.0 q.1) (trace A r (alone g b))
      (AllAnswers-and (λ a l. IsOf g b a) (λ a l. IsAnswer a) (trace A r (alone g b)) (AllAnswers-IsOf A renames locals g b r (alone g b) (IsOf-alone g b hg)) (harmless r))))
    where
      s : Plain
      s = state (more g (append_trees gs K)) T n k

      each : (a : Plain) (l : ℕ) → IsOf g b a → IsAnswer a → NoAnswers (trace A l (graft b s a))
      each a l p e =
          let q = graft-answer g gs K T b n k a bn o apart p e in
          subst (λ z. NoAnswers (trace A l z)) (sym q.4) (barren q.0 q.1 q.2 q.3 q.6 q.5 l)

  IsBarren-IsDead : (g : Tree) (gs : Trees) (b : ℕ) → Local (λ x. x < b) g → IsDead A g b → IsBarren A b (more g gs)
  IsBarren-IsDead g gs b hg dead K T n k bn o r =
      subst NoAnswers (sym (trace-split A renames locals g (append_trees gs K) T b n k r bn o hg))
      (NoAnswers-followed (trace A r (alone g b)) _ (AllAnswers-weaken (λ a l. ⊥) _ (λ a l z. absurd z) (trace A r (alone g b)) (dead r)))

  -- where a search is known to give nothing, it has no outcome to any depth
  NoAnswers-Gives : (s : Plain) (c : ℕ) → Gives A (s ∷ []) [] [] c → (r : ℕ) → NoAnswers (trace A r s)
  NoAnswers-Gives s c h r = NoAnswers-below A r (h.0 + 0) s (at (h.1 ((r + h.0) + steps_of s) (omega arith)))
    where
      at : GivesAt A ((r + h.0) + steps_of s) (s ∷ []) [] [] c → NoAnswers (trace A (r + (h.0 + 0)) s)
      at x = AllAnswers-left (λ a l. ⊥) (trace A (r + (h.0 + 0)) s) []
          (subst (λ z. NoAnswers (trace A z s ++ [])) (lem (steps_of s))
          (subst NoAnswers (sym x.2) (AllAnswers-append (λ a l. ⊥) x.0 x.1 (NoAnswers-none x.0 x.3) (NoAnswers-none x.1 (answers_in-Thins x.5)))))
        where
          lem : (k : ℕ) → ((r + h.0) + k) - k ≡ r + (h.0 + 0)
          lem k = omega arith

  -- from the goals of slots of which one has failed safely nothing comes
  IsBarren-HasFailedSafely : (w : Slots) (b : ℕ) → HasFailedSafely A b w → Strong A b w → AreApart (slot_goals w) → IsBarren A b (slot_goals w)
  IsBarren-HasFailedSafely no_slot b f s ind = absurd f
  IsBarren-HasFailedSafely (fresh g w) b f s ind = IsBarren-more g (slot_goals w) b s.0 f.0 ind.0 (IsBarren-HasFailedSafely w b f.1 s.1 ind.1)
  IsBarren-HasFailedSafely (stored g m w) b f s ind = IsBarren-more g (slot_goals w) b s.0 f.0 ind.0 (IsBarren-HasFailedSafely w b f.1 s.2 ind.1)
  IsBarren-HasFailedSafely (busy g t w) b (inr f) s ind = IsBarren-more g (slot_goals w) b s.0 f.0 ind.0 (IsBarren-HasFailedSafely w b f.1 s.3 ind.1)
  IsBarren-HasFailedSafely (busy g t w) b (inl f) s ind =
      let q = Gives-flat_task A renames locals t g b s.1 in
      IsBarren-IsDead g (slot_goals w) b s.0
      (IsDead-Gives g b (cost t + q.0)
      (subst (λ z. Gives A (alone g b ∷ []) [] z (cost t + q.0)) (flat_task-IsExhausted t f) (Gives-then A (alone g b ∷ []) [] (base t) [] (flat_task t) (cost t) q.0 s.2 q.1)))
  IsBarren-HasFailedSafely (held g m a t e w) b f s ind = IsBarren-more g (slot_goals w) b s.0 (of_held f.0) ind.0 (IsBarren-HasFailedSafely w b f.1 s.5 ind.1)
    where
      of_held : IsExhausted t ⊎ IsHarmless A g b → IsHarmless A g b
      of_held (inr q) = q
      of_held (inl q) = IsHarmless-over g b e a s.3.0 (subst (λ l. Gives A (alone g b ∷ []) [] (a ∷ l) e) (flat_task-IsExhausted t q) s.4)
  IsBarren-HasFailedSafely (drained g m t i x w) b f s ind = λ K T n k bn o.
      let q = Gives-Strong A renames locals (drained g m t i x w) first (λ x. refl) b K T n k bn ind o s in
      NoAnswers-Gives (state (more g (append_trees (slot_goals w) K)) T n k) (x + (left t - i))
      (subst (λ l. Gives A (state (more g (append_trees (slot_goals w) K)) T n k ∷ []) [] (grafts b (state (more g (append_trees (slot_goals w) K)) T n k) l) (x + (left t - i))) (flat_task-IsExhausted t f) q)
  IsBarren-HasFailedSafely (redone g m t i w) b f s ind = absurd f
  IsBarren-HasFailedSafely (again g m a t e w) b f s ind = absurd f

  pub AlternativesInvariant-plains : (h : Tree) (z : ℕ) (m : List Plain) (l : Alternatives) → AreOf h z m → IsQuiet l → AlternativesInvariant A h z l → AlternativesInvariant A h z (plains m l)
  AlternativesInvariant-plains h z [] l o q i = i
  AlternativesInvariant-plains h z (s ∷ m) l o q i = (o.0, IsQuiet-plains m l q, AlternativesInvariant-plains h z m l o.1 q i)

  pub Strong-freshes : (gs : Trees) (n : ℕ) → LocalAll (λ x. x < n) gs → Strong A n (freshes gs)
  Strong-freshes none n h = tt
  Strong-freshes (more g gs) n h = (h.0, Strong-freshes gs n h.1)

  -- where a goal's search is over, the answers that it gave are all of them
  IsWhole-over : (g : Tree) (b : ℕ) (m : List Plain) (t : Task) → Local (λ x. x < b) g → TaskInvariant A g b t → IsExhausted t → HasGiven A g b m t → IsWhole A g b m
  IsWhole-over g b m t hg i over h = (of_goal, Gives-thin A (alone g b ∷ []) m given.0 (λ d k. thin d (given.1 d k)))
    where
      given : Gives A (alone g b ∷ []) m [] (cost t + 0)
      given =
          let q = Gives-flat_task A renames locals t g b i in
          Gives-less A (alone g b ∷ []) m [] (cost t + q.0) (cost t + 0) (omega arith)
          (subst (λ x. Gives A (alone g b ∷ []) m x (cost t + q.0)) (flat_task-IsExhausted t over)
          (subst (λ z. Gives A (alone g b ∷ []) z (flat_task t) (cost t + q.0)) (append-nil m) (Gives-then A (alone g b ∷ []) m (base t) [] (flat_task t) (cost t) q.0 h q.1)))

      -- its answers are those of the trace
      are : (d : ℕ) → GivesAt A d (alone g b ∷ []) m [] (cost t + 0) → answers_in (trace A (d - 0) (alone g b)) ≡ m
      are d x =
          ap answers_in (sym (append-nil (trace A (d - 0) (alone g b))) ∙ x.2) ∙ answers_in-append x.0 x.1 ∙ ap₂ (λ u v. u ++ v) x.3 (answers_in-Thins x.5) ∙ append-nil m

      of_goal : AreOf g b m
      of_goal = subst (AreOf g b) (are given.0 (given.1 given.0 (le_refl given.0)))
          (answers_in-Every (IsOf g b) (trace A (given.0 - 0) (alone g b)) (AllAnswers-IsOf A renames locals g b (given.0 - 0) (alone g b) (IsOf-alone g b hg)))

      thin : (d : ℕ) → GivesAt A d (alone g b ∷ []) m [] (cost t + 0) → Thins (traces A d (alone g b ∷ [])) (traces A d m)
      thin d x = subst (λ es. Thins es (traces A d m)) (sym (append-nil (trace A (d - 0) (alone g b))))
          (subst (λ l. Thins (trace A (d - 0) (alone g b)) (traces A d l)) (are d x) (Thins-answers_in A d (trace A (d - 0) (alone g b))
          (AllAnswers-and (λ a l. l + steps_of a ≡ (d - 0) + 0) (λ a l. IsEnded a) (trace A (d - 0) (alone g b)) (AllAnswers-left_over A (d - 0) (alone g b) 0 refl) (AllAnswers-done A (d - 0) (alone g b)))))

  Strong-IsUntouched : (w : Slots) (b : ℕ) → IsUntouched w → Weak A b w → Strong A b (resets w)
  Strong-IsUntouched no_slot b u h = tt
  Strong-IsUntouched (fresh g w) b u h = (h.0, Strong-IsUntouched w b u h.1)
  Strong-IsUntouched (stored g m w) b u h = (h.0, h.1, Strong-IsUntouched w b u h.2)
  Strong-IsUntouched (busy g t w) b u h = absurd u
  Strong-IsUntouched (held g m a t c w) b u h = absurd u
  Strong-IsUntouched (redone g m t i w) b u h = absurd u
  Strong-IsUntouched (again g m a t c w) b u h = absurd u
  Strong-IsUntouched (drained g m t i e w) b u h = absurd u

  pub Strong-resets : (w : Slots) (b : ℕ) → IsUsedUp w → Weak A b w → Strong A b (resets w)
  Strong-resets no_slot b u h = tt
  Strong-resets (fresh g w) b u h = absurd u
  Strong-resets (stored g m w) b u h = absurd u
  Strong-resets (busy g t w) b u h = absurd u
  Strong-resets (held g m a t c w) b u h = (h.0, IsWhole-over g b m t h.0 h.1 u.0 h.5, Strong-resets w b u.1 h.4)
  Strong-resets (redone g m t i w) b u h = (h.0, IsWhole-over g b m t h.0 h.1 u.0 h.3, Strong-IsUntouched w b u.1 h.2)
  Strong-resets (drained g m t i e w) b u h = absurd u
  Strong-resets (again g m a t c w) b u h = (h.0, IsWhole-over g b m t h.0 h.1 u.0 h.5, Strong-resets w b u.1 h.4)

  pub Pivot-Redo : {w v : Slots} → Redo w v → (b : ℕ) → Weak A b w → Pivot A b v × ((s : Plain) → base_slots v b s ≡ flat_slots w closed b s) × (cost_slots v ≡ 0)
  Pivot-Redo (redo_held {a = a} {t = t} {w = w} q) b h = (
    (h.0, h.1, Strong-resets w b q h.4, h.5),
    (λ s. ap (grafts b s) (base-IsQuietTask t h.3.1) ∙ sym (ap (λ z. z ++ grafts b s (flat_task t)) (flat_slots-IsUsedUp w b (graft b s a) q))),
    minus-same (cost t) (left t) (cost-IsQuietTask t h.3.1),
  )
  Pivot-Redo (redo_again {a = a} {t = t} {w = w} q) b h = (
    (h.0, h.1, Strong-resets w b q h.4, h.5),
    (λ s. ap (grafts b s) (base-IsQuietTask t h.3.1) ∙ sym (ap (λ z. z ++ grafts b s (flat_task t)) (flat_slots-IsUsedUp w b (graft b s a) q))),
    minus-same (cost t) (left t) (cost-IsQuietTask t h.3.1),
  )
  Pivot-Redo (past_held {a = a} {t = t} r) b h =
      let q = Pivot-Redo r b h.4 in
      ((h.0, h.1, h.2, h.3, q.0, h.5), (λ s. ap (λ z. z ++ grafts b s (flat_task t)) (q.1 (graft b s a))), omega (arith, q.2))
  Pivot-Redo (past_again {a = a} {t = t} r) b h =
      let q = Pivot-Redo r b h.4 in
      ((h.0, h.1, h.2, h.3, q.0, h.5), (λ s. ap (λ z. z ++ grafts b s (flat_task t)) (q.1 (graft b s a))), omega (arith, q.2))

  mutual
    pub slot_goals-Turn : {b : ℕ} {w v : Slots} → Turn A b w v → slot_goals v ≡ slot_goals w
    slot_goals-Turn start = refl
    slot_goals-Turn given_back = refl
    slot_goals-Turn forgets = refl
    slot_goals-Turn replays = refl
    slot_goals-Turn (past_stored {g = g} u) = ap (more g) (slot_goals-Turn u)
    slot_goals-Turn (inside s) = refl
    slot_goals-Turn answers = refl
    slot_goals-Turn (past_fresh {g = g} u) = ap (more g) (slot_goals-Turn u)
    slot_goals-Turn (past_busy {g = g} u) = ap (more g) (slot_goals-Turn u)
    slot_goals-Turn (Turn.past_held {g = g} u) = ap (more g) (slot_goals-Turn u)
    slot_goals-Turn (inside_drained s) = refl
    slot_goals-Turn throws = refl
    slot_goals-Turn (past_drained {g = g} u) = ap (more g) (slot_goals-Turn u)

    pub slot_goals-Spin : {b : ℕ} {w v : Slots} → Spin A b w v → slot_goals v ≡ slot_goals w
    slot_goals-Spin (inside_redone s) = refl
    slot_goals-Spin answers_redone = refl
    slot_goals-Spin (forgets_right {g = g} f) = ap (more g) (slot_goals-Forgets f)
    slot_goals-Spin (right_of {g = g} u) = ap (more g) (slot_goals-Turn u)
    slot_goals-Spin (left_of {g = g} u) = ap (more g) (slot_goals-Spin u)

  pub IsForkOf-same : (s : Plain) (w v : Slots) → slot_goals v ≡ slot_goals w → IsForkOf s w → IsForkOf s v
  IsForkOf-same s w v e h = (h.0, h.1, h.2, h.3, h.4 ∙ ap (λ z. state (append_trees z h.0) h.1 h.2 h.3) (sym e), subst AreApart (sym e) h.5)

  pub Effect-joined : (h : Tree) (z : ℕ) (r : Round) (c : ℕ) (s : Plain) (w : Slots) (l : Alternatives) (e : ℕ) → ((s : Plain) → joined_if r s ≡ s ∷ []) → IsFull w
      → IsOf h z s → IsForkOf s w → Weak A (next_of s) w → IsQuiet l → AlternativesInvariant A h z l → AreLive A (next_of s) (slot_goals w)
      → (from : List Plain) (k : ℕ) → Gives A from [] (flat_slots w r (next_of s) s ++ flat_alternatives l) e → (edge_slots w ≤ k + e)
      → TaskInvariant A h z (task (c + edge_slots w) (plain (joined w (next_of s) s) (frame s closed w l)))
      × ((e : ℕ) × Gives A from [] (base (task (c + edge_slots w) (plain (joined w (next_of s) s) (frame s closed w l)))) e × (cost (task (c + edge_slots w) (plain (joined w (next_of s) s) (frame s closed w l))) ≤ (c + k) + e))
  Effect-joined h z r c s w l e open_round full o sh wk q i lv from k gv le = (
    (here, (refl, q), (o, sh, wk, q, i, lv, IsShut-IsFull w full)),
    (e, subst (λ x. Gives A from [] (x ++ flat_alternatives l) e) (flat_slots-IsFull r open_round w (next_of s) s full) gv, omega arith),
  )
    where
      all : AreOf h z (flat_slots w r (next_of s) s)
      all = subst (λ x. AreOf h z (flat_slots w r (next_of s) x)) (sym sh.4) (AreOf-flat_slots A renames locals w h z r (next_of s) sh.0 sh.1 sh.2 sh.3 (next_of-le s sh.2 (ap next_of sh.4)) sh.5 (subst (IsOf h z) sh.4 o) wk)

      here : IsOf h z (joined w (next_of s) s)
      here = (subst (AreOf h z) (flat_slots-IsFull r open_round w (next_of s) s full) all).0

  -- an answer taken, in a slot
  pub HasGiven-answer : (g : Tree) (b : ℕ) (m : List Plain) (T : Trees) (n k c : ℕ) (l : Alternatives) → IsQuiet l → Gives A (alone g b ∷ []) m (state none T n k ∷ flat_alternatives l) (c + 0)
      → HasGiven A g b (m ++ (state none T n k ∷ [])) (task c l)
  HasGiven-answer g b m T n k c l q h =
      subst (λ z. Gives A (alone g b ∷ []) (m ++ (state none T n k ∷ [])) z (c + cost_alternatives l)) (sym (base_alternatives-IsQuiet l q))
      (Gives-less A (alone g b ∷ []) (m ++ (state none T n k ∷ [])) (flat_alternatives l) ((c + 0) + 0) (c + cost_alternatives l) (omega (arith, cost_alternatives-IsQuiet l q))
      (Gives-then A (alone g b ∷ []) m (state none T n k ∷ flat_alternatives l) (state none T n k ∷ []) (flat_alternatives l) (c + 0) 0 h (Gives-answer A T n k (flat_alternatives l))))

  slot_goals-Drains : {b : ℕ} {w v : Slots} → Drains A b w v → slot_goals v ≡ slot_goals w
  slot_goals-Drains (drain_here f) = refl
  slot_goals-Drains (drain_past {g = g} u) = ap (more g) (slot_goals-Drains u)

  -- a slot that is drained from now on
  Strong-Drains : {b : ℕ} {w v : Slots} → Drains A b w v → AreApart (slot_goals w) → Strong A b w → Strong A b v
  Strong-Drains (drain_past u) ind h = (h.0, h.1, h.2, h.3, h.4, Strong-Drains u ind.1 h.5, h.6)
  Strong-Drains (drain_here {b = b} {g = g} {m = m} {a = a} {t = t} {c = c} {w = w} f) ind h = (h.0, h.1, h.6, (ind.0, barren), led, h.5)
    where
      barren : IsBarren A b (slot_goals w)
      barren = IsBarren-HasFailedSafely w b f h.5 ind.1

      led : HasDrained A g b (base t) ((c + edge_slots w) + (cost t - left t)) (slot_goals w)
      led K T n k bn o =
          let s : Plain = state (more g (append_trees (slot_goals w) K)) T n k in
          let q = graft-answer g (slot_goals w) K T b n k a bn o ind.0 h.2 h.3.0 in
          let behind : Gives A (graft b s a ∷ []) [] (flat_slots w first b (graft b s a)) (edge_slots w) =
          subst (λ x. Gives A (x ∷ []) [] (flat_slots w first b x) (edge_slots w)) (sym q.4) (Gives-Strong A renames locals w first (λ x. refl) b q.0 q.1 q.2 q.3 q.6 ind.1 q.5 h.5) in
          let none_at : (r : ℕ) → NoAnswers (trace A r (graft b s a)) = λ r. subst (λ x. NoAnswers (trace A r x)) (sym q.4) (barren q.0 q.1 q.2 q.3 q.6 q.5 r) in
          subst (λ l. Gives A (s ∷ []) [] (grafts b s l) ((c + edge_slots w) + (cost t - left t))) (sym (base-IsQuietTask t h.3.1))
          (Gives-less A (s ∷ []) [] (grafts b s (flat_task t)) (c + edge_slots w) ((c + edge_slots w) + (cost t - left t)) (no_more c (edge_slots w) (cost t) (left t) (cost-IsQuietTask t h.3.1))
          (Gives-then A (s ∷ []) [] (graft b s a ∷ grafts b s (flat_task t)) [] (grafts b s (flat_task t)) c (edge_slots w)
          (subst (λ x. Gives A (x ∷ []) [] (graft b s a ∷ grafts b s (flat_task t)) c) (graft-alone g (append_trees (slot_goals w) K) T b n k h.0)
          (Gives-graft A renames locals g (append_trees (slot_goals w) K) T b n k bn o (alone g b ∷ []) (a ∷ flat_task t) c (IsOf-alone g b h.0, tt) (h.2, AreOf-flat_task A renames locals t g b h.1) h.4))
          (Gives-beside A (graft b s a ∷ []) [] [] (grafts b s (flat_task t)) (edge_slots w)
          (Gives-drop A renames locals (graft b s a) (flat_slots w first b (graft b s a)) (edge_slots w) none_at behind))))
        where
          no_more : (c e x y : ℕ) → x ≡ y → (c + e) + (x - y) ≤ c + e
          no_more c e x y q = omega arith

  -- an answer of a drained slot is thrown away
  thrown : (g : Tree) (gs : Trees) (b : ℕ) (T' : Trees) (n' k' c : ℕ) (l : Alternatives) (j x : ℕ) → IsOf g b (state none T' n' k') → IsQuiet l → IsApart g gs → IsBarren A b gs
      → (K T : Trees) (n k : ℕ) → b ≤ n → IsPlainBelow (state (more g (append_trees gs K)) T n k)
      → Gives A (state (more g (append_trees gs K)) T n k ∷ []) [] (grafts b (state (more g (append_trees gs K)) T n k) (state none T' n' k' ∷ flat_alternatives l)) (x + ((c + 0) - j))
      → Gives A (state (more g (append_trees gs K)) T n k ∷ []) [] (grafts b (state (more g (append_trees gs K)) T n k) (base_alternatives l)) (x + ((c + cost_alternatives l) - j))
  thrown g gs b T' n' k' c l j x own quiet apart barren K T n k bn o h =
      subst (λ y. Gives A (s ∷ []) [] (grafts b s y) (x + ((c + cost_alternatives l) - j))) (sym (base_alternatives-IsQuiet l quiet))
      (Gives-less A (s ∷ []) [] (grafts b s (flat_alternatives l)) ((x + ((c + 0) - j)) + 0) (x + ((c + cost_alternatives l) - j)) (omega (arith, cost_alternatives-IsQuiet l quiet))
      (Gives-then A (s ∷ []) [] (graft b s (state none T' n' k') ∷ grafts b s (flat_alternatives l)) [] (grafts b s (flat_alternatives l)) (x + ((c + 0) - j)) 0 h
      (Gives-beside A (graft b s (state none T' n' k') ∷ []) [] [] (grafts b s (flat_alternatives l)) 0
      (Gives-drop A renames locals (graft b s (state none T' n' k')) (graft b s (state none T' n' k') ∷ []) 0 none_at (Gives-none A (graft b s (state none T' n' k') ∷ []))))))
    where
      s : Plain
      s = state (more g (append_trees gs K)) T n k

      none_at : (r : ℕ) → NoAnswers (trace A r (graft b (state (more g (append_trees gs K)) T n k) (state none T' n' k')))
      none_at r =
          let q = graft-answer g gs K T b n k (state none T' n' k') bn o apart own tt in
          subst (λ z. NoAnswers (trace A r z)) (sym q.4) (barren q.0 q.1 q.2 q.3 q.6 q.5 r)

  Strong-Forgets : {w v : Slots} (b : ℕ) → Forgets w v → Strong A b w → Strong A b v
  Strong-Forgets b forget_here h = (h.0, h.2)
  Strong-Forgets b (forget_past_fresh f) h = (h.0, Strong-Forgets b f h.1)
  Strong-Forgets b (forget_past_stored f) h = (h.0, h.1, Strong-Forgets b f h.2)

  mutual
    pub Effect-Step : {t u : Task} → Step A t u → (h : Tree) (z : ℕ) → TaskInvariant A h z t → Effect A h z t u
    Effect-Step (infer {c = c} {g = g} {G = G} {T = T} {n = n} {k = k} {l = l}) h z i = (
      AlternativesInvariant-plains h z (plain_children_by G T n k (A g n)) l (AreOf-plain_children A renames locals h z g G T n k i.0) i.1 i.2,
      (
        1,
        subst (λ x. Gives A (state (more g G) T n k ∷ flat_alternatives l) [] x 1) (sym (base_alternatives-plains (plain_children_by G T n k (A g n)) l i.1))
            (Gives-beside A (state (more g G) T n k ∷ []) [] (plain_children_by G T n k (A g n)) (flat_alternatives l) 1 (Gives-infer A g G T n k)),
        omega (arith, cost_alternatives-plains (plain_children_by G T n k (A g n)) l i.1),
      ),
    )
    Effect-Step (fork {c = c} {s = s} {l = l} gs K T n k e ind) h z i = (
      (
        i.0,
        (K, T, n, k, e ∙ ap (λ x. state (append_trees x K) T n k) (sym (slot_goals-freshes gs)), subst AreApart (sym (slot_goals-freshes gs)) ind),
        subst (λ x. Strong A x (freshes gs)) (sym (ap next_of e)) (Strong-freshes gs n (LocalAll-append_left (λ x. x < n) gs K (subst IsPlainBelow e (IsPlainBelow-IsOf h z s i.0)).0)),
        i.1,
        i.2,
      ),
      (0, Gives-none A (s ∷ flat_alternatives l), omega arith),
    )
    Effect-Step (in_first {c = c} {s = s} {w = w} {v = v} {l = l} u) h z i =
        ((i.0, IsForkOf-same s w v (slot_goals-Turn u) i.1, Strong-Turn u i.2, i.3, i.4), (0, Gives-none A (s ∷ flat_alternatives l), omega arith))
    Effect-Step (drain {c = c} {s = s} {w = w} {v = v} {l = l} u) h z i =
        ((i.0, IsForkOf-same s w v (slot_goals-Drains u) i.1, Strong-Drains u i.1.5 i.2, i.3, i.4), (0, Gives-none A (s ∷ flat_alternatives l), omega arith))
    Effect-Step (in_later {c = c} {s = s} {w = w} {v = v} {l = l} u) h z i =
        let q = Pivot-Spin u i.1.0 i.1.1 i.1.2 i.1.3 (next_of-le s i.1.2 (ap next_of i.1.4)) i.1.5 (subst IsPlainBelow i.1.4 (IsPlainBelow-IsOf h z s i.0)) i.2 in (
          (i.0, IsForkOf-same s w v (slot_goals-Spin u) i.1, q.0, i.3, i.4, subst (AreLive A (next_of s)) (sym (slot_goals-Spin u)) i.5, HasBegun-Spin u i.6),
          (
            q.1.0,
            Gives-beside A (base_slots w (next_of s) s) [] (base_slots v (next_of s) s) (flat_alternatives l) q.1.0
                (subst (λ x. Gives A (base_slots w (next_of s) x) [] (base_slots v (next_of s) x) q.1.0) (sym i.1.4) q.1.1),
            omega (arith, q.1.2),
          ),
        )
    Effect-Step (join_first {c = c} {s = s} {w = w} {l = l} full) h z i =
        let q = Gives-flat_alternatives A renames locals (frame s first w l) h z i in
        Effect-joined h z first c s w l q.0 (λ x. refl) full i.0 i.1 (Weak-Strong A renames locals w (next_of s) i.2) i.3 i.4 (AreLive-IsFull w (next_of s) full i.2) (s ∷ flat_alternatives l) 0 q.1 q.2
    Effect-Step (join_later {c = c} {s = s} {w = w} {l = l} full) h z i =
        let q = Gives-flat_alternatives A renames locals (frame s later w l) h z i in
        Effect-joined h z later c s w l q.0 (λ x. refl) full i.0 i.1 (Weak-Pivot A renames locals w (next_of s) i.2) i.3 i.4 i.5 (base_slots w (next_of s) s ++ flat_alternatives l) (cost_slots w) q.1 q.2
    Effect-Step (break_first {c = c} {s = s} {w = w} {l = l} e le f) h z i =
        let q = Gives-flat_alternatives A renames locals (frame s first w exhausted) h z (i.0, i.1, i.2, tt, tt) in
        let dead : (r : ℕ) → NoAnswers (trace A r s) = λ r. subst (λ x. NoAnswers (trace A r x)) (sym i.1.4)
        (IsBarren-HasFailedSafely w (next_of s) f i.2 i.1.5 i.1.0 i.1.1 i.1.2 i.1.3 (next_of-le s i.1.2 (ap next_of i.1.4)) (subst IsPlainBelow i.1.4 (IsPlainBelow-IsOf h z s i.0)) r) in (
          i.4,
          (
            q.0,
            subst (λ x. Gives A (s ∷ flat_alternatives l) [] x q.0) (sym (base_alternatives-IsQuiet l i.3))
                (Gives-beside A (s ∷ []) [] [] (flat_alternatives l) q.0 (Gives-drop A renames locals s (flat_slots w first (next_of s) s ++ []) q.0 dead q.1)),
            omega (arith, q.2, cost_alternatives-IsQuiet l i.3),
          ),
        )
    Effect-Step (break_later {c = c} {s = s} {w = w} {l = l} e le f) h z i =
        let q = Gives-flat_alternatives A renames locals (frame s later w l) h z i in
        let sh : IsShut w = IsShut-HasFailedLater w (next_of s) f i.2 i.6 i.5 in (
          (i.0, i.1, Weak-Pivot A renames locals w (next_of s) i.2, i.3, i.4, i.5, sh),
          (q.0, subst (λ x. Gives A (base_slots w (next_of s) s ++ flat_alternatives l) [] (x ++ flat_alternatives l) q.0) (flat_slots-IsStuck w (next_of s) s (IsStuck-IsShut w f sh)) q.1, omega (arith, q.2)),
        )
    Effect-Step (dropped {c = c} {s = s} {w = w} {l = l} f) h z i = (
      i.4,
      (
        0,
        subst (λ x. Gives A (x ++ flat_alternatives l) [] (base_alternatives l) 0) (sym (flat_slots-IsUsedUp w (next_of s) s (IsUsedUp-IsShut w i.6 f)))
            (subst (λ x. Gives A (flat_alternatives l) [] x 0) (sym (base_alternatives-IsQuiet l i.3)) (Gives-none A (flat_alternatives l))),
        omega (arith, cost_alternatives-IsQuiet l i.3),
      ),
    )
    Effect-Step (redo {c = c} {s = s} {w = w} {v = v} {l = l} r) h z i =
        let rr : Redo w v = Redo-IsShut r i.6 in
        let q = Pivot-Redo rr (next_of s) i.2 in (
          (i.0, IsForkOf-same s w v (slot_goals-Redo rr) i.1, q.0, i.3, i.4, subst (AreLive A (next_of s)) (sym (slot_goals-Redo rr)) i.5, HasBegun-Redo rr),
          (
            0,
            subst (λ x. Gives A (flat_slots w closed (next_of s) s ++ flat_alternatives l) [] (x ++ flat_alternatives l) 0) (sym (q.1 s)) (Gives-none A (flat_slots w closed (next_of s) s ++ flat_alternatives l)),
            omega (arith, q.2),
          ),
        )

    pub Strong-Turn : {b : ℕ} {w v : Slots} → Turn A b w v → Strong A b w → Strong A b v
    Strong-Turn (start {b = b} {g = g}) h = (h.0, (IsOf-alone g b h.0, tt, tt), Gives-none A (alone g b ∷ []), h.1)
    Strong-Turn given_back h = (h.0, h.3)
    Strong-Turn forgets h = (h.0, h.2)
    Strong-Turn (replays {b = b} {g = g} {T = T'} {n = n'} {k = k'} {l = l}) h =
        let whole : Gives A (alone g b ∷ []) [] (state none T' n' k' ∷ flat_alternatives (plains l exhausted)) 0 =
        subst (λ x. Gives A (alone g b ∷ []) [] (state none T' n' k' ∷ x) 0) (sym (flat_alternatives-plains l exhausted ∙ append-nil l)) h.1.1 in (
          h.0,
          AlternativesInvariant-plains g b l exhausted h.1.0.1 tt tt,
          h.1.0.0,
          (tt, IsQuiet-plains l exhausted tt),
          whole,
          h.2,
          HasGiven-answer g b [] T' n' k' 0 (plains l exhausted) (IsQuiet-plains l exhausted tt) whole,
        )
    Strong-Turn (past_stored u) h = (h.0, h.1, Strong-Turn u h.2)
    Strong-Turn (inside {b = b} {g = g} {t = t} {u = u} st) h =
        let q = Effect-Step st g b h.1 in (
          h.0,
          q.0,
          Gives-less A (alone g b ∷ []) [] (base u) (cost t + q.1.0) (cost u) q.1.2
              (Gives-then A (alone g b ∷ []) [] (base t) [] (base u) (cost t) q.1.0 h.2 q.1.1),
          h.3,
        )
    Strong-Turn (answers {b = b} {g = g} {c = c} {T = T} {n = n} {k = k} {l = l}) h =
        (h.0, h.1.2, h.1.0, (tt, h.1.1), Gives-less A (alone g b ∷ []) [] (state none T n k ∷ flat_alternatives l) (c + 0) c (omega arith) h.2, h.3, HasGiven-answer g b [] T n k c l h.1.1 h.2)
    Strong-Turn (past_fresh u) h = (h.0, Strong-Turn u h.1)
    Strong-Turn (past_busy u) h = (h.0, h.1, h.2, Strong-Turn u h.3)
    Strong-Turn (Turn.past_held u) h = (h.0, h.1, h.2, h.3, h.4, Strong-Turn u h.5, h.6)
    Strong-Turn (inside_drained {b = b} {g = g} {m = m} {t = t} {u = u} {i = j} {e = x} {w = w} st) h =
        let q = Effect-Step st g b h.1 in (
          h.0,
          q.0,
          Gives-less A (alone g b ∷ []) m (base u) (cost t + q.1.0) (cost u) q.1.2
              (subst (λ z. Gives A (alone g b ∷ []) z (base u) (cost t + q.1.0)) (append-nil m) (Gives-then A (alone g b ∷ []) m (base t) [] (base u) (cost t) q.1.0 h.2 q.1.1)),
          h.3,
          λ K T n k bn o.
              let s : Plain = state (more g (append_trees (slot_goals w) K)) T n k in
              Gives-less A (s ∷ []) [] (grafts b s (base u)) ((x + (cost t - j)) + q.1.0) (x + (cost u - j)) (more_than x (cost u - j) (cost t - j) q.1.0 (minus-le (cost u) (cost t) j q.1.0 q.1.2))
              (Gives-then A (s ∷ []) [] (grafts b s (base t)) [] (grafts b s (base u)) (x + (cost t - j)) q.1.0 (h.4 K T n k bn o)
              (Gives-graft A renames locals g (append_trees (slot_goals w) K) T b n k bn o (base t) (base u) q.1.0 (AreOf-base A renames locals t g b h.1) (AreOf-base A renames locals u g b q.0) q.1.1)),
          h.5,
        )
    Strong-Turn (throws {b = b} {g = g} {m = m} {c = c} {T = T'} {n = n'} {k = k'} {l = l} {i = j} {e = x} {w = w}) h = (
      h.0,
      h.1.2,
      HasGiven-answer g b m T' n' k' c l h.1.1 h.2,
      h.3,
      λ K T n k bn o. thrown g (slot_goals w) b T' n' k' c l j x h.1.0 h.1.1 h.3.0 h.3.1 K T n k bn o (h.4 K T n k bn o),
      h.5,
    )
    Strong-Turn (past_drained {b = b} {g = g} {t = t} {i = j} {e = x} u) h = (h.0, h.1, h.2, subst (λ gs. IsApart g gs × IsBarren A b gs) (sym (slot_goals-Turn u)) h.3, subst (HasDrained A g b (base t) (x + (cost t - j))) (sym (slot_goals-Turn u)) h.4, Strong-Turn u h.5)

    pub Pivot-Spin : {b : ℕ} {w v : Slots} → Spin A b w v → (K T : Trees) (n k : ℕ) → b ≤ n → AreApart (slot_goals w) → IsPlainBelow (state (append_trees (slot_goals w) K) T n k) → Pivot A b w
        → Pivot A b v × ((e : ℕ) × Gives A (base_slots w b (state (append_trees (slot_goals w) K) T n k)) [] (base_slots v b (state (append_trees (slot_goals w) K) T n k)) e × (cost_slots v ≤ cost_slots w + e))
    Pivot-Spin (inside_redone {b = b} {g = g} {m = m} {t = t} {u = u} {i = j} {w = w} st) K T n k bn ind o i =
        let q = Effect-Step st g b i.1 in (
          (
            i.0,
            q.0,
            i.2,
            Gives-less A (alone g b ∷ []) m (base u) (cost t + q.1.0) (cost u) q.1.2
                (subst (λ z. Gives A (alone g b ∷ []) z (base u) (cost t + q.1.0)) (append-nil m) (Gives-then A (alone g b ∷ []) m (base t) [] (base u) (cost t) q.1.0 i.3 q.1.1)),
          ),
          (
            q.1.0,
            Gives-graft A renames locals g (append_trees (slot_goals w) K) T b n k bn o (base t) (base u) q.1.0 (AreOf-base A renames locals t g b i.1) (AreOf-base A renames locals u g b q.0) q.1.1,
            minus-le (cost u) (cost t) j q.1.0 q.1.2,
          ),
        )
    Pivot-Spin (answers_redone {b = b} {g = g} {m = m} {c = c} {T = T'} {n = n'} {k = k'} {l = l} {i = j} {w = w}) K T n k bn ind o i = (
      (i.0, i.1.2, i.1.0, (tt, i.1.1), i.2, HasGiven-answer g b m T' n' k' c l i.1.1 i.3),
      (0, Gives-none A (grafts b (state (more g (append_trees (slot_goals w) K)) T n k) (state none T' n' k' ∷ flat_alternatives l)), omega arith),
    )
    Pivot-Spin (forgets_right {b = b} {g = g} {m = m} {t = t} {i = j} {w = w} {v = v} f) K T n k bn ind o i = (
      (i.0, i.1, Strong-Forgets b f i.2, i.3),
      (0, Gives-none A (grafts b (state (more g (append_trees (slot_goals w) K)) T n k) (base t)), omega arith),
    )
    Pivot-Spin (right_of {b = b} {g = g} {a = a} {t = t} {c = c} {w = w} {v = v} u) K T n k bn ind o i = (
      (i.0, i.1, i.2, i.3, Strong-Turn u i.4, i.5),
      (
        0,
        subst (λ x. Gives A (grafts b (state (more g (append_trees (slot_goals w) K)) T n k) (a ∷ flat_task t)) [] (grafts b (state (more g (append_trees (slot_goals w) K)) T n k) (a ∷ flat_task t)) x) refl
            (Gives-none A (grafts b (state (more g (append_trees (slot_goals w) K)) T n k) (a ∷ flat_task t))),
        omega arith,
      ),
    )
    Pivot-Spin (left_of {b = b} {g = g} {a = a} {t = t} {c = c} {w = w} {v = v} u) K T n k bn ind o i =
        let s : Plain = state (more g (append_trees (slot_goals w) K)) T n k in
        let q = graft-answer g (slot_goals w) K T b n k a bn o ind.0 i.2 i.3.0 in
        let x = Pivot-Spin u q.0 q.1 q.2 q.3 q.6 ind.1 q.5 i.4 in (
          (i.0, i.1, i.2, i.3, x.0, i.5),
          (
            x.1.0,
            Gives-beside A (base_slots w b (graft b s a)) [] (base_slots v b (graft b s a)) (grafts b s (flat_task t)) x.1.0
                (subst (λ y. Gives A (base_slots w b y) [] (base_slots v b y) x.1.0) (sym q.4) x.1.1),
            omega (arith, x.1.2),
          ),
        )
