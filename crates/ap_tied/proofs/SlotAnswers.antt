-- Slots that run and come to an answer.
use Rattle.std.proofs.Common.{◌≡◌, ℕ, ◌-◌, ◌<◌, ◌⊎◌, inl, inr, true, false, List, [], ◌∷◌, Some, refl, ap, sym, ◌∙◌, subst, arith}
use Rattle.std.proofs.lemmas.Option.{none-some}
use Rattle.std.specs.Prelude.{not}
use Rattle.ap_term.specs.Tree.{Tree}
use Rattle.ap_term.specs.Search.{State}
use Rattle.ap_term.specs.Substitution.{instance_all}
use Rattle.ap_term.specs.Vars.{Local}
use Rattle.ap_term.specs.WellFormed.{IsProgram}
use Rattle.ap_laws.specs.Graft.{IsOf}
use Rattle.ap_core.specs.declared.events.Kind.TheVariants as kinds
use Rattle.ap_core.specs.declared.tasks.Busy.TheVariants as busy_kind
use Rattle.ap_core.specs.Tasks as core
use Rattle.ap_core.specs.Tasks.{Answer, Task, task, Alternatives, exhausted, alternative, Alternative, state, frame, Progress, busy, again, redone}
use Rattle.ap_core.specs.Conditions.{is_done, is_exhausted, spent_by}
use Rattle.ap_core.specs.Relation.{Rules, at_slot, recorded, answer, answer_slot, plain_answer, mapped}
use Rattle.ap_core.specs.Lifting.{at_end}
use Rattle.ap_core.proofs.Options.{Some-only_if}
use Rattle.ap_frames.specs.declared.frame.Round.{Round}
use Rattle.ap_tracked.specs.Tracked.{Tracked}
use Rattle.ap_tracked.specs.Forks.{alone}
use Rattle.ap_graft.proofs.Variables.{of_from, plain_is}
use Rattle.ap_instr.specs.Code.{Compiled}
use Rattle.ap_standing.specs.Machine.{Point, Machine}
use Rattle.ap_group.specs.Groups.{Forked}
use Rattle.ap_tie.specs.Sections as views
use Rattle.ap_tie.specs.Sections.{Section, section, Stack, bottom, parcall, Slots, machine_in}
use Rattle.ap_tie.specs.Settled.{HasFailed, AreClosed}
use Rattle.ap_tie.specs.Tied.{IsAtAnswer, HoldsTask}
use Rattle.ap_tie.proofs.Settled.{answer_at}
use Rattle.ap_tied.specs.Ties.{IsSimple, AreSimple, IsSimpleProgress, stack_in, IsSearched, IsTied}
use Rattle.ap_tied.specs.SlotCalls.{stood, answered, RunsSlot}
use Rattle.ap_tied.proofs.Places.{SlotAt}
use Rattle.ap_tied.proofs.SlotEvents.{FirstFrame, GoesOn, Runs, none_runs, after, happens, now_tied, goes_busy, goes_redone, run_first, run_open, run_at, run_as, run_origin}
use Rattle.ap_tied.proofs.SlotGoals.{goal_local}

-- ---- an answer

-- the answer is the task's first alternative, which is done
pub record IsFirst (z : Task) (y : Answer) (v : Task) : Type 0 where
  pub rest : ℕ
  pub spent : ℕ
  pub done : State
  pub behind : Alternatives
  pub is : z ≡ task rest spent (alternative (state done) behind)
  pub ended : is_done done ≡ true
  pub answer_is : ◌≡◌ {A = Answer} (record { tuple = done.tuple; next = done.next; steps = done.steps }) y
  pub left : task rest spent behind ≡ v

pub first_answer : (z : Task) (y : Answer) (v : Task) → answer z ≡ Some (y, v) → IsFirst z y v
first_answer (task r c exhausted) y v e = absurd (none-some _ e)
first_answer (task r c (alternative (frame s rd w) l)) y v e = absurd (none-some _ e)
first_answer (task r c (alternative (state s) l)) y v e =
    let h = Some-only_if (is_done s) (record { tuple = s.tuple; next = s.next; steps = s.steps }, task r c l) (y, v) e in
    record { rest = r; spent = c; done = s; behind = l; is = refl; ended = h.0; answer_is = ap (λ (x : Answer × Task). x.0) h.1; left = ap (λ (x : Answer × Task). x.1) h.1 }

answer_spent : (z : Task) (y : Answer) (v : Task) → answer z ≡ Some (y, v) → spent_by v ≡ spent_by z
answer_spent z y v e = let h = first_answer z y v e in ap spent_by (sym h.left) ∙ sym (ap spent_by h.is)

-- what is left is simple where the whole is, and so is the whole
pub answer_simple : (z : Task) (y : Answer) (v : Task) → answer z ≡ Some (y, v) → IsSimple z → IsSimple v
answer_simple z y v e s = let h = first_answer z y v e in let parts : Unit {0} × AreSimple h.behind = subst IsSimple h.is s in subst IsSimple h.left parts.1

pub simple_whole : (z : Task) (y : Answer) (v : Task) → answer z ≡ Some (y, v) → IsSimple v → IsSimple z
simple_whole z y v e s = let h = first_answer z y v e in subst IsSimple (sym h.is) (tt, subst IsSimple (sym h.left) s)

-- an answer of a goal alone is of that goal
answer_of : (code : Compiled) (p : Rules) (g : Tree) (d : ℕ) (a : Section) (z : Task) (y : Answer) (v : Task) → IsProgram p.program → Local (λ x. x < d) g → HoldsTask code p (alone g d) a z → answer z ≡ Some (y, v) → IsOf g d (plain_answer y)
answer_of code p g d a z y v good below h e =
    let k = answer_at code p d g a z v y h e in
    subst (IsOf g d) (sym k.1.plain) (plain_is g d k.0 (of_from p.program g d k.0 good below k.1.is_answer.kept.from))

-- ---- the slot

module _ (code : Compiled) (p : Rules) (o n : Tracked) (m : Machine) (c b : ℕ) (f : Forked) (q : ℕ) (rd : Round) (w : Slots) (qs : List Point) (st : Stack) (t z v : Task) (i d : ℕ) (y : Answer) (a : Section)
    (searched : IsSearched code p o) (tied : IsTied code p o (section m c b (parcall f q rd w qs st)) t) (run : RunsSlot i t n d z) (inner : IsTied code p n a z) (is_at : IsAtAnswer (machine_in a)) (closed : AreClosed (stack_in a))
    (comes : answer z ≡ Some (y, v)) where
  abbrev first : FirstFrame code p o m c b f q rd w qs st t
  first = run_first code p o n m c b f q rd w qs st t z i d tied run

  abbrev at : SlotAt code p q first.forked.next (instance_all first.is_forked.own first.is_forked.goals) w first.slots i
  at = run_at code p o n m c b f q rd w qs st t z i d tied run

  abbrev cost : ℕ
  cost = spent_by z - d

  abbrev Result : Type 0
  Result = (u : Task) × (at_end p kinds.Answer (i ∷ []) t ≡ Some u) × IsTied code p o (stood i (answered cost (not (is_exhausted v))) (views.held a) (section m c b (parcall f q rd w qs st))) u

  source : HoldsTask code p (alone at.goal first.forked.next) a z
  source = subst (λ s. HoldsTask code p s a z) (run_origin code p o n m c b f q rd w qs st t z i d tied run) inner.holds

  is_of : IsOf at.goal first.forked.next (plain_answer y)
  is_of =
      answer_of code p at.goal first.forked.next a z y v searched.program
      (goal_local code p o m.roots f first.forked first.is_forked first.kept searched i at.goal at.goal_at) source comes

  -- what the slot's progress is with the answer
  given : (k : Progress) (e : List Answer) → (k ≡ core.held e y v cost) ⊎ (k ≡ again e y v cost) → at_slot p kinds.Answer (b - c) first.forked.next at.goal false at.progress ≡ Some (false, k) → GoesOn at.progress k → Result
  given k e is event goes_on = (
    after code p o m c b f q rd w qs st t tied first i k,
    happens code p o m c b f q rd w qs st t tied first (run_open code p o n m c b f q rd w qs st t z i d tied run) i at kinds.Answer k event,
    now_tied code p o m c b f q rd w qs st t tied first (run_open code p o n m c b f q rd w qs st t z i d tied run) i at (answered cost (not (is_exhausted v))) (views.held a) k
        (v, (e, y, is), refl) (is_at, (e, y, v, z, cost, source, comes, is_of, is)) (refl, inner.quiet, closed) (simple is) goes_on,
  )
    where
      simple : (k ≡ core.held e y v cost) ⊎ (k ≡ again e y v cost) → IsSimpleProgress k
      simple (inl h) = subst IsSimpleProgress (sym h) (answer_simple z y v comes inner.simple)
      simple (inr h) = subst IsSimpleProgress (sym h) (answer_simple z y v comes inner.simple)

  answers_first : Runs at.progress z d → Result
  answers_first (inl (e, anew)) =
      let spent : spent_by v ≡ spent_by z = answer_spent z y v comes in
      let same_cost : spent_by v ≡ cost = omega (arith, spent, anew) in
      given (core.held [] y v (spent_by v)) [] (inl (ap (core.held [] y v) same_cost))
      (ap (λ x. recorded false (answer_slot x)) e ∙ ap (λ j. recorded false (mapped (λ (k : Answer × Task). core.held [] k.0 k.1 (spent_by k.1)) j)) comes)
      (goes_busy at.progress (core.held [] y v (spent_by v)) busy_kind.Running z e)
  answers_first (inr (e, is)) =
      let spent : spent_by v ≡ spent_by z = answer_spent z y v comes in
      given (again e y v (spent_by v - d)) e (inr (ap (λ j. again e y v (j - d)) spent))
      (ap (λ x. recorded false (answer_slot x)) is ∙ ap (λ j. recorded false (mapped (λ (k : Answer × Task). again e k.0 k.1 (spent_by k.1 - d)) j)) comes)
      (goes_redone at.progress (again e y v (spent_by v - d)) e busy_kind.Running z d is tt)

pub answers : (code : Compiled) (p : Rules) (o n : Tracked) (s a : Section) (t z v : Task) (i d : ℕ) (y : Answer)
    → IsSearched code p o → IsTied code p o s t → HasFailed (machine_in s).roots [] (machine_in s) → RunsSlot i t n d z → IsTied code p n a z → IsAtAnswer (machine_in a) → AreClosed (stack_in a) → answer z ≡ Some (y, v)
    → (u : Task) × (at_end p kinds.Answer (i ∷ []) t ≡ Some u) × IsTied code p o (stood i (answered (spent_by z - d) (not (is_exhausted v))) (views.held a) s) u
answers code p o n (section m c b bottom) a t z v i d y searched tied failed run inner is_at closed comes = absurd (none_runs code p o m c b t z i tied.holds run.runs)
answers code p o n (section m c b (parcall f q rd w qs st)) a t z v i d y searched tied failed run inner is_at closed comes =
    answers_first code p o n m c b f q rd w qs st t z v i d y a searched tied run inner is_at closed comes (run_as code p o n m c b f q rd w qs st t z i d tied run)
