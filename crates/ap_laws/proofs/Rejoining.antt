-- What it means that a search rejoins another, in answers and budgets.
use Rattle.std.proofs.Common.{◌≡◌, ℕ, zero, suc, ◌+◌, ◌-◌, ◌<◌, ◌≤◌, ◌⊎◌, inl, inr, List, [], ◌∷◌, ◌++◌, map, Option, Some, None, refl, ap, ap₂, sym, ◌∙◌, subst, arith, append-nil}
use Rattle.std.specs.List.{flat_map, AllByRecursion}
use Rattle.std.proofs.lemmas.List.{map-append}
use Rattle.ap_term.specs.Tree.{Tree, Trees, node, none, more, append_trees}
use Rattle.ap_term.specs.Goals.{Program}
use Rattle.ap_term.specs.Independence.{AreApart}
use Rattle.ap_term.specs.WellFormed.{IsProgram}
use Rattle.ap_term.specs.Search.{State, Outcome, put_before, cut as cut_off, answers_to_depth, outcomes_to_depth, meets}
use Rattle.ap_laws.specs.Plain.{Plain, state, faulted, Ways, outcome, tuple_of, IsAnswer, next_of, plain_of, as_state, plain_ways, HasFullGroups, Renames, Locals, IsPlainBelow}
use Rattle.ap_laws.specs.Trace.{Action, called, cut, answered, trace, trace_to, traces, answers_in, calls_in, found_upto}
use Rattle.ap_laws.specs.Graft.{alone, graft, grafts, IsOf}
use Rattle.ap_laws.specs.Gives.{Thins, thins_none, thins_keep, thins_drop, GivesAt, Rejoins, IsCallDue}
use Rattle.ap_laws.specs.Tasks.{Round, first, later, closed, Task, task, Alternatives, exhausted, plain, frame, Slots, no_slot, fresh, stored, busy, held, redone, again, drained, flat_task, flat_alternatives, flat_slots, left, edge_alternatives, edge_slots, slot_goals}
use Rattle.ap_term.specs.Blocks.{Begins, IsAllUpTo}
use Rattle.ap_term.specs.declared.faults.Fault.{Fault}
use Rattle.ap_term.proofs.SearchLaws.{depths}
use Rattle.ap_laws.specs.Events.{IsExhausted}
use Rattle.ap_laws.proofs.Events.{flat_task-IsExhausted}
use Rattle.ap_laws.specs.Rejoining.{IsOnTheWay, IsRejoined, IsRejoinedAlone, AreRejoined, AreRejoinedIn, AreSlotsRejoined, IsSpent, IsSpentIn, IsSlotSpent, IsDrainSpent, IsRaised, IsRaisedIn, IsSlotRaised, MeaningLaw, RejoinLaw, EmittedLaw}
use Rattle.ap_laws.proofs.Invariant.{HasGiven, Weak, TaskInvariant, AlternativesInvariant}
use Rattle.ap_laws.proofs.Plain.{Renames-plain_ways, Locals-plain_ways}
use Rattle.ap_laws.proofs.Traces.{answers_in-append}
use Rattle.ap_laws.proofs.Gives.{answers_in-Thins, graft-answer}
use Rattle.ap_laws.proofs.Flat.{IsPlainBelow-IsOf, next_of-le, Weak-Strong, Weak-Pivot, Rejoins-HasGiven}
use Rattle.ap_laws.proofs.Runs.{IsOf-plain_of, AreAnswers-Runs, Rejoins-base, Rejoins-Runs}
use Rattle.ap_laws.proofs.Views.{plain_of-as_state, AreGroups-calls, answers_to_depth-trace, search-trace}

-- ---- budgets

-- what is found before the charge is used up
found_upto-short : (n : ℕ) (p x : List Action) → n < calls_in p → IsOnTheWay (found_upto n (p ++ x)) (map outcome (answers_in p))
found_upto-short n [] x k = absurd (omega arith)
found_upto-short zero (called ∷ p) x k = (refl, (map outcome (answers_in p), refl))
found_upto-short (suc n) (called ∷ p) x k = found_upto-short n p x (omega arith)
found_upto-short n (cut ∷ p) x k = (refl, (map outcome (answers_in p), refl))
found_upto-short n (answered t m ∷ p) x k = let q = found_upto-short n p x k in (q.0, (q.1.0, ap (λ z. outcome t ∷ z) q.1.1))

found_upto-due : (n : ℕ) (p x : List Action) → n ≤ calls_in p → IsOnTheWay (found_upto 0 x) [] → IsOnTheWay (found_upto n (p ++ x)) (map outcome (answers_in p))
found_upto-due zero [] x k due = due
found_upto-due (suc n) [] x k due = absurd (omega arith)
found_upto-due zero (called ∷ p) x k due = (refl, (map outcome (answers_in p), refl))
found_upto-due (suc n) (called ∷ p) x k due = found_upto-due n p x (omega arith) due
found_upto-due n (cut ∷ p) x k due = (refl, (map outcome (answers_in p), refl))
found_upto-due n (answered t m ∷ p) x k due = let q = found_upto-due n p x k due in (q.0, (q.1.0, ap (λ z. outcome t ∷ z) q.1.1))

traces-due : (A : Ways) (d : ℕ) (l : List Plain) → IsCallDue l → IsOnTheWay (found_upto 0 (traces A d l)) []
unfolding trace
traces-due A d [] c = absurd c
traces-due A d (state none T n k ∷ l) c = absurd c
traces-due A d (faulted e k ∷ l) c = absurd c
traces-due A d (state (more g G) T n k ∷ l) c = go (d - k)
  where
    go : (r : ℕ) → IsOnTheWay (found_upto 0 (trace A r (state (more g G) T n k) ++ traces A d l)) []
    go zero = (refl, ([], refl))
    go (suc r) = (refl, ([], refl))

due-Thins : {x y : List Action} → Thins x y → IsOnTheWay (found_upto 0 y) [] → IsOnTheWay (found_upto 0 x) []
due-Thins thins_none h = h
due-Thins (thins_drop {x = called} q k) h = (refl, ([], refl))
due-Thins (thins_drop {x = cut} q k) h = (refl, ([], refl))
due-Thins (thins_drop {x = answered s l} q k) h = absurd q
due-Thins (thins_keep {x = called} k) h = (refl, ([], refl))
due-Thins (thins_keep {x = cut} k) h = (refl, ([], refl))
due-Thins (thins_keep {x = answered s l} k) h = cc

-- ---- the meaning

module _ (p : Program) (good : IsProgram p) where
  pub answers_to_depth-as_state : (d : ℕ) (u : Plain) → outcomes_to_depth p (as_state u) d ≡ map outcome (answers_in (trace_to (plain_ways p) d u))
  answers_to_depth-as_state d (state G T n k) =
      answers_to_depth-trace p good d (as_state (state G T n k)) (AreGroups-calls G)
      ∙ ap (λ v. map outcome (answers_in (trace_to (plain_ways p) d v))) (plain_of-as_state (state G T n k))
  answers_to_depth-as_state d (faulted e k) = answers_to_depth-trace p good d (as_state (faulted e k)) tt

  answers_to_depth-traces : (d : ℕ) (l : List Plain) → flat_map (λ u. outcomes_to_depth p (as_state u) d) l ≡ map outcome (answers_in (traces (plain_ways p) d l))
  answers_to_depth-traces d [] = refl
  answers_to_depth-traces d (u ∷ l) =
      ap₂ (λ a b. a ++ b) (answers_to_depth-as_state d u) (answers_to_depth-traces d l)
      ∙ sym (ap (map outcome) (answers_in-append (trace_to (plain_ways p) d u) (traces (plain_ways p) d l)) ∙ map-append outcome (answers_in (trace_to (plain_ways p) d u)) (answers_in (traces (plain_ways p) d l)))

  answers-GivesAt : (d : ℕ) (u : Plain) (given rest : List Plain) (c : ℕ) → GivesAt (plain_ways p) d (u ∷ []) given rest c
      → answers_in (trace_to (plain_ways p) d u) ≡ given ++ answers_in (traces (plain_ways p) d rest)
  answers-GivesAt d u given rest c x =
      ap answers_in (sym (append-nil (trace_to (plain_ways p) d u)) ∙ x.2) ∙ answers_in-append x.0 x.1 ∙ ap₂ (λ g r. g ++ r) x.3 (answers_in-Thins x.5)

  module _ (s : State) (full : HasFullGroups s) (given rest : List Plain) (c : ℕ) (h : Rejoins (plain_ways p) (plain_of s) given rest c) where
    answers-Rejoins : (m : ℕ) × ((d : ℕ) → m ≤ d → outcomes_to_depth p s d ≡ map outcome given ++ flat_map (λ u. outcomes_to_depth p (as_state u) d) rest)
    answers-Rejoins = (
      h.0,
      λ d k.
          answers_to_depth-trace p good d s full ∙ ap (map outcome) (answers-GivesAt d (plain_of s) given rest c (h.1 d k))
          ∙ map-append outcome given (answers_in (traces (plain_ways p) d rest)) ∙ ap (λ z. map outcome given ++ z) (sym (answers_to_depth-traces d rest)),
    )

    -- a budget's search is that of the trace to a depth that is large enough
    budget-at : (n d : ℕ) → n + s.steps ≤ d → (x : GivesAt (plain_ways p) d (plain_of s ∷ []) given rest c)
        → IsOnTheWay (found_upto n (x.0 ++ x.1)) (map outcome (answers_in x.0)) → IsOnTheWay (meets p n (s ∷ [])) (map outcome given)
    budget-at n d l x k =
        subst (λ f. IsOnTheWay f (map outcome given)) (sym (search-trace p good d n (s ∷ []) (full, tt) (l, tt) ∙ ap (found_upto n) x.2))
        (subst (λ g. IsOnTheWay (found_upto n (x.0 ++ x.1)) (map outcome g)) x.3 k)

    search-short : (n : ℕ) → n < c → IsOnTheWay (meets p n (s ∷ [])) (map outcome given)
    search-short n k = go (h.1 d (omega arith))
      where
        d : ℕ
        d = h.0 + (n + s.steps)

        go : GivesAt (plain_ways p) d (plain_of s ∷ []) given rest c → IsOnTheWay (meets p n (s ∷ [])) (map outcome given)
        go x = budget-at n d (omega arith) x (found_upto-short n x.0 x.1 (omega (arith, x.4)))

    search-due : IsCallDue rest → (n : ℕ) → n ≤ c → IsOnTheWay (meets p n (s ∷ [])) (map outcome given)
    search-due due n k = go (h.1 d (omega arith))
      where
        d : ℕ
        d = h.0 + (n + s.steps)

        go : GivesAt (plain_ways p) d (plain_of s ∷ []) given rest c → IsOnTheWay (meets p n (s ∷ [])) (map outcome given)
        go x = budget-at n d (omega arith) x (found_upto-due n x.0 x.1 (omega (arith, x.4)) (due-Thins x.5 (traces-due (plain_ways p) d rest due)))

    pub IsRejoined-Rejoins : IsRejoined p s (map outcome given) rest c
    IsRejoined-Rejoins = (answers-Rejoins, search-short, search-due)

pub meaning : MeaningLaw
meaning p good s full given rest c h = IsRejoined-Rejoins p good s full given rest c h

-- ---- spent budgets

-- the charge so far is more than the budget, or as much where a call is due
abbrev IsPast : ℕ → ℕ → List Plain → Type 0
IsPast budget c l = (budget < c) ⊎ ((budget ≤ c) × IsCallDue l)

IsCallDue-append : (l m : List Plain) → IsCallDue l → IsCallDue (l ++ m)
IsCallDue-append [] m h = absurd h
IsCallDue-append (state none T n k ∷ l) m h = absurd h
IsCallDue-append (faulted e k ∷ l) m h = absurd h
IsCallDue-append (state (more g G) T n k ∷ l) m h = h

IsCallDue-grafts : (b : ℕ) (g : Tree) (K T : Trees) (n k : ℕ) (l : List Plain) → IsCallDue l → IsCallDue (grafts b (state (more g K) T n k) l)
IsCallDue-grafts b g K T n k [] h = absurd h
IsCallDue-grafts b g K T n k (state none U m j ∷ l) h = absurd h
IsCallDue-grafts b g K T n k (faulted e j ∷ l) h = absurd h
IsCallDue-grafts b g K T n k (state (more t G) U m j ∷ l) h = tt

IsPast-more : (budget c e : ℕ) (l m : List Plain) → IsPast budget c l → c ≤ e → IsPast budget e (l ++ m)
IsPast-more budget c e l m (inl h) k = inl (omega arith)
IsPast-more budget c e l m (inr h) k = inr (omega (arith, h.0), IsCallDue-append l m h.1)

IsPast-frame : (budget c r e : ℕ) (l m : List Plain) → (budget < c + e) ⊎ ((c + r ≡ budget) × IsPast r e l) → IsPast budget (c + e) (l ++ m)
IsPast-frame budget c r e l m (inl h) = inl h
IsPast-frame budget c r e l m (inr h) = go h.1
  where
    go : IsPast r e l → IsPast budget (c + e) (l ++ m)
    go (inl k) = inl (omega (arith, h.0))
    go (inr k) = inr (omega (arith, h.0, k.0), IsCallDue-append l m k.1)

module _ (A : Ways) (renames : Renames A) (locals : Locals A) where
  mutual
    IsPast-IsSpent : (budget : ℕ) (t : Task) (h : Tree) (z : ℕ) → TaskInvariant A h z t → IsSpent budget t → IsPast budget (left t) (flat_task t)
    IsPast-IsSpent budget (task c l) h z i s = IsPast-IsSpentIn budget c l h z i s

    IsPast-IsSpentIn : (budget c : ℕ) (l : Alternatives) (h : Tree) (z : ℕ) → AlternativesInvariant A h z l → IsSpentIn budget c l
        → IsPast budget (c + edge_alternatives l) (flat_alternatives l)
    IsPast-IsSpentIn budget c exhausted h z i s = absurd s
    IsPast-IsSpentIn budget c (plain (state none T n k) l) h z i s = absurd (s.1 refl)
    IsPast-IsSpentIn budget c (plain (faulted e k) l) h z i s = absurd (s.1 refl)
    IsPast-IsSpentIn budget c (plain (state (more g G) T n k) l) h z i s = inr (omega (arith, s.0), tt)
    IsPast-IsSpentIn budget c (frame s closed w l) h z i q = absurd q
    IsPast-IsSpentIn budget c (frame s first w l) h z i (inl q) = inl q
    IsPast-IsSpentIn budget c (frame s first w l) h z i (inr (inl q)) =
        IsPast-frame budget c q.0 (edge_slots w) (flat_slots w first (next_of s) s) (flat_alternatives l) (inr (
          q.1,
          subst (λ x. IsPast q.0 (edge_slots w) (flat_slots w first (next_of s) x)) (sym i.1.4)
              (IsPast-IsSlotSpent q.0 w first (next_of s) i.1.0 i.1.1 i.1.2 i.1.3 (next_of-le s i.1.2 (ap next_of i.1.4)) i.1.5 (subst IsPlainBelow i.1.4 (IsPlainBelow-IsOf h z s i.0))
              (Weak-Strong A renames locals w (next_of s) i.2) q.2),
        ))
    IsPast-IsSpentIn budget c (frame s first w l) h z i (inr (inr q)) =
        IsPast-frame budget c q.0 (edge_slots w) (flat_slots w first (next_of s) s) (flat_alternatives l) (inr (
          q.1,
          subst (λ x. IsPast q.0 (edge_slots w) (flat_slots w first (next_of s) x)) (sym i.1.4)
              (IsPast-IsDrainSpent q.0 w first (next_of s) i.1.0 i.1.1 i.1.2 i.1.3 (next_of-le s i.1.2 (ap next_of i.1.4)) i.1.5 (subst IsPlainBelow i.1.4 (IsPlainBelow-IsOf h z s i.0))
              (Weak-Strong A renames locals w (next_of s) i.2) q.2),
        ))
    IsPast-IsSpentIn budget c (frame s later w l) h z i (inl q) = inl q
    IsPast-IsSpentIn budget c (frame s later w l) h z i (inr q) =
        IsPast-frame budget c q.0 (edge_slots w) (flat_slots w later (next_of s) s) (flat_alternatives l) (inr (
          q.1,
          subst (λ x. IsPast q.0 (edge_slots w) (flat_slots w later (next_of s) x)) (sym i.1.4)
              (IsPast-IsSlotSpent q.0 w later (next_of s) i.1.0 i.1.1 i.1.2 i.1.3 (next_of-le s i.1.2 (ap next_of i.1.4)) i.1.5 (subst IsPlainBelow i.1.4 (IsPlainBelow-IsOf h z s i.0))
              (Weak-Pivot A renames locals w (next_of s) i.2) q.2),
        ))

    IsPast-IsSlotSpent : (r : ℕ) (w : Slots) (round : Round) (b : ℕ) (K T : Trees) (n k : ℕ) → b ≤ n → AreApart (slot_goals w) → IsPlainBelow (state (append_trees (slot_goals w) K) T n k) → Weak A b w
        → IsSlotSpent r w → IsPast r (edge_slots w) (flat_slots w round b (state (append_trees (slot_goals w) K) T n k))
    IsPast-IsSlotSpent r no_slot round b K T n k bn ind o i s = absurd s
    IsPast-IsSlotSpent r (fresh g w) round b K T n k bn ind o i s = absurd s
    IsPast-IsSlotSpent r (stored g m w) round b K T n k bn ind o i s = absurd s
    IsPast-IsSlotSpent r (drained g m t j e w) round b K T n k bn ind o i s = absurd s
    IsPast-IsSlotSpent r (busy g t w) round b K T n k bn ind o i s = go (IsPast-IsSpent r t g b i.1 s)
      where
        go : IsPast r (left t) (flat_task t) → IsPast r (left t) (grafts b (state (more g (append_trees (slot_goals w) K)) T n k) (flat_task t))
        go (inl h) = inl h
        go (inr h) = inr (h.0, IsCallDue-grafts b g (append_trees (slot_goals w) K) T n k (flat_task t) h.1)
    IsPast-IsSlotSpent r (redone g m t j w) round b K T n k bn ind o i s = go (IsPast-IsSpent (j + r) t g b i.1 s)
      where
        go : IsPast (j + r) (left t) (flat_task t) → IsPast r (left t - j) (grafts b (state (more g (append_trees (slot_goals w) K)) T n k) (flat_task t))
        go (inl h) = inl (omega arith)
        go (inr h) = inr (omega (arith, h.0), IsCallDue-grafts b g (append_trees (slot_goals w) K) T n k (flat_task t) h.1)
    IsPast-IsSlotSpent r (held g m a t c w) round b K T n k bn ind o i s =
        let q = graft-answer g (slot_goals w) K T b n k a bn o ind.0 i.2 i.3.0 in
        IsPast-more r (edge_slots w) (c + edge_slots w) (flat_slots w round b (graft b (state (more g (append_trees (slot_goals w) K)) T n k) a)) (grafts b (state (more g (append_trees (slot_goals w) K)) T n k) (flat_task t))
        (subst (λ x. IsPast r (edge_slots w) (flat_slots w round b x)) (sym q.4) (IsPast-IsSlotSpent r w round b q.0 q.1 q.2 q.3 q.6 ind.1 q.5 i.4 s)) (omega arith)
    IsPast-IsSlotSpent r (again g m a t c w) round b K T n k bn ind o i s =
        let q = graft-answer g (slot_goals w) K T b n k a bn o ind.0 i.2 i.3.0 in
        IsPast-more r (edge_slots w) (c + edge_slots w) (flat_slots w round b (graft b (state (more g (append_trees (slot_goals w) K)) T n k) a)) (grafts b (state (more g (append_trees (slot_goals w) K)) T n k) (flat_task t))
        (subst (λ x. IsPast r (edge_slots w) (flat_slots w round b x)) (sym q.4) (IsPast-IsSlotSpent r w round b q.0 q.1 q.2 q.3 q.6 ind.1 q.5 i.4 s)) (omega arith)

    IsPast-IsDrainSpent : (r : ℕ) (w : Slots) (round : Round) (b : ℕ) (K T : Trees) (n k : ℕ) → b ≤ n → AreApart (slot_goals w) → IsPlainBelow (state (append_trees (slot_goals w) K) T n k) → Weak A b w
        → IsDrainSpent r w → IsPast r (edge_slots w) (flat_slots w round b (state (append_trees (slot_goals w) K) T n k))
    IsPast-IsDrainSpent r no_slot round b K T n k bn ind o i s = absurd s
    IsPast-IsDrainSpent r (fresh g w) round b K T n k bn ind o i s = absurd s
    IsPast-IsDrainSpent r (stored g m w) round b K T n k bn ind o i s = absurd s
    IsPast-IsDrainSpent r (busy g t w) round b K T n k bn ind o i s = absurd s
    IsPast-IsDrainSpent r (redone g m t j w) round b K T n k bn ind o i s = absurd s
    IsPast-IsDrainSpent r (again g m a t c w) round b K T n k bn ind o i s = absurd s
    IsPast-IsDrainSpent r (held g m a t c w) round b K T n k bn ind o i s =
        let q = graft-answer g (slot_goals w) K T b n k a bn o ind.0 i.2 i.3.0 in
        IsPast-frame r c s.0 (edge_slots w) (flat_slots w round b (graft b (state (more g (append_trees (slot_goals w) K)) T n k) a)) (grafts b (state (more g (append_trees (slot_goals w) K)) T n k) (flat_task t))
        (inr (s.1, subst (λ x. IsPast s.0 (edge_slots w) (flat_slots w round b x)) (sym q.4) (IsPast-IsDrainSpent s.0 w round b q.0 q.1 q.2 q.3 q.6 ind.1 q.5 i.4 s.2)))
    IsPast-IsDrainSpent r (drained g m t j e w) round b K T n k bn ind o i s = go (IsPast-IsSpent (j + s.0) t g b i.1 s.2)
      where
        go : IsPast (j + s.0) (left t) (flat_task t) → IsPast r (e + (left t - j)) (grafts b (state (more g (append_trees (slot_goals w) K)) T n k) (flat_task t))
        go (inl h) = inl (omega (arith, s.1))
        go (inr h) = inr (omega (arith, h.0, s.1), IsCallDue-grafts b g (append_trees (slot_goals w) K) T n k (flat_task t) h.1)

-- ---- tasks of goals alone

module _ (p : Program) (good : IsProgram p) where
  abbrev A : Ways
  A = plain_ways p

  renames : Renames A
  renames = Renames-plain_ways p good

  locals : Locals A
  locals = Locals-plain_ways p good

  -- where a budget is spent, the search hasn't ended within it
  search-IsSpent : (s : State) (given : List Plain) (t : Task) (h : Tree) (z : ℕ) → TaskInvariant A h z t → IsRejoined p s (map outcome given) (flat_task t) (left t) → (budget : ℕ) → IsSpent budget t
      → IsOnTheWay (meets p budget (s ∷ [])) (map outcome given)
  search-IsSpent s given t h z i rejoined budget spent = go (IsPast-IsSpent A renames locals budget t h z i spent)
    where
      go : IsPast budget (left t) (flat_task t) → IsOnTheWay (meets p budget (s ∷ [])) (map outcome given)
      go (inl k) = rejoined.1 budget k
      go (inr k) = rejoined.2 k.1 budget k.0

  IsRejoinedAlone-HasGiven : (g : Tree) (b : ℕ) (m : List Plain) (t : Task) → TaskInvariant A g b t → HasGiven A g b m t → IsRejoinedAlone p g b m t
  IsRejoinedAlone-HasGiven g b m t i past =
      let h : Rejoins A (alone g b) m (flat_task t) (left t) = Rejoins-HasGiven A renames locals g b m t i past in
      let rejoined = IsRejoined-Rejoins p good (as_state (alone g b)) tt m (flat_task t) (left t) h in
      (rejoined, (h.0, λ d k. answers-GivesAt p good d (alone g b) m (flat_task t) (left t) (h.1 d k)), search-IsSpent (as_state (alone g b)) m t g b i rejoined)

  mutual
    AreRejoined-TaskInvariant : (t : Task) (h : Tree) (z : ℕ) → TaskInvariant A h z t → AreRejoined p t
    AreRejoined-TaskInvariant (task c l) h z i = AreRejoinedIn-AlternativesInvariant l h z i

    AreRejoinedIn-AlternativesInvariant : (l : Alternatives) (h : Tree) (z : ℕ) → AlternativesInvariant A h z l → AreRejoinedIn p l
    AreRejoinedIn-AlternativesInvariant exhausted h z i = tt
    AreRejoinedIn-AlternativesInvariant (plain s l) h z i = AreRejoinedIn-AlternativesInvariant l h z i.2
    AreRejoinedIn-AlternativesInvariant (frame s first w l) h z i =
        (AreSlotsRejoined-Weak w (next_of s) (Weak-Strong A renames locals w (next_of s) i.2), AreRejoinedIn-AlternativesInvariant l h z i.4)
    AreRejoinedIn-AlternativesInvariant (frame s later w l) h z i =
        (AreSlotsRejoined-Weak w (next_of s) (Weak-Pivot A renames locals w (next_of s) i.2), AreRejoinedIn-AlternativesInvariant l h z i.4)
    AreRejoinedIn-AlternativesInvariant (frame s closed w l) h z i = (AreSlotsRejoined-Weak w (next_of s) i.2, AreRejoinedIn-AlternativesInvariant l h z i.4)

    AreSlotsRejoined-Weak : (w : Slots) (b : ℕ) → Weak A b w → AreSlotsRejoined p b w
    AreSlotsRejoined-Weak no_slot b i = tt
    AreSlotsRejoined-Weak (fresh g w) b i = AreSlotsRejoined-Weak w b i.1
    AreSlotsRejoined-Weak (stored g m w) b i = AreSlotsRejoined-Weak w b i.2
    AreSlotsRejoined-Weak (busy g t w) b i = (IsRejoinedAlone-HasGiven g b [] t i.1 i.3, AreRejoined-TaskInvariant t g b i.1, AreSlotsRejoined-Weak w b i.2)
    AreSlotsRejoined-Weak (held g m a t c w) b i = (IsRejoinedAlone-HasGiven g b m t i.1 i.5, AreRejoined-TaskInvariant t g b i.1, AreSlotsRejoined-Weak w b i.4)
    AreSlotsRejoined-Weak (redone g m t j w) b i = (IsRejoinedAlone-HasGiven g b m t i.1 i.3, AreRejoined-TaskInvariant t g b i.1, AreSlotsRejoined-Weak w b i.2)
    AreSlotsRejoined-Weak (drained g m t j e w) b i = (IsRejoinedAlone-HasGiven g b m t i.1 i.3, AreRejoined-TaskInvariant t g b i.1, AreSlotsRejoined-Weak w b i.2)
    AreSlotsRejoined-Weak (again g m a t c w) b i = (IsRejoinedAlone-HasGiven g b m t i.1 i.5, AreRejoined-TaskInvariant t g b i.1, AreSlotsRejoined-Weak w b i.4)

-- ---- the whole

pub rejoin : RejoinLaw
rejoin p good q below full emitted t runs = (rejoined, AreRejoined-TaskInvariant p good t (node 0 q.tuple) 0 invariant, search-IsSpent p good q emitted t (node 0 q.tuple) 0 invariant rejoined)
  where
    own : IsOf (node 0 q.tuple) 0 (plain_of q)
    own = IsOf-plain_of q below

    invariant : TaskInvariant (plain_ways p) (node 0 q.tuple) 0 t
    invariant = (Rejoins-base (plain_ways p) (renames p good) (locals p good) (node 0 q.tuple) 0 (plain_of q) own runs).0

    rejoined : IsRejoined p q (map outcome emitted) (flat_task t) (left t)
    rejoined = IsRejoined-Rejoins p good q full emitted (flat_task t) (left t) (Rejoins-Runs (plain_ways p) (renames p good) (locals p good) (node 0 q.tuple) 0 (plain_of q) own runs)

-- ---- a fault that was met

module _ (A : Ways) (renames : Renames A) (locals : Locals A) where
  -- it comes first
  abbrev ComesFirst : Fault → List Plain → Type 0
  ComesFirst e l = (k : ℕ) × (m : List Plain) × (l ≡ faulted e k ∷ m)

  ComesFirst-append : (e : Fault) (l m : List Plain) → ComesFirst e l → ComesFirst e (l ++ m)
  ComesFirst-append e l m h = (h.0, h.1 ++ m, ap (λ x. x ++ m) h.2)

  ComesFirst-grafts : (e : Fault) (b : ℕ) (g : Tree) (K T : Trees) (n k : ℕ) (l : List Plain) → ComesFirst e l → ComesFirst e (grafts b (state (more g K) T n k) l)
  ComesFirst-grafts e b g K T n k l h = (k + h.0, grafts b (state (more g K) T n k) h.1, ap (grafts b (state (more g K) T n k)) h.2)

  mutual
    ComesFirst-IsRaised : (e : Fault) (t : Task) (h : Tree) (z : ℕ) → TaskInvariant A h z t → IsRaised e t → ComesFirst e (flat_task t)
    ComesFirst-IsRaised e (task c l) h z i r = ComesFirst-IsRaisedIn e l h z i r

    ComesFirst-IsRaisedIn : (e : Fault) (l : Alternatives) (h : Tree) (z : ℕ) → AlternativesInvariant A h z l → IsRaisedIn e l → ComesFirst e (flat_alternatives l)
    ComesFirst-IsRaisedIn e exhausted h z i r = absurd r
    ComesFirst-IsRaisedIn e (plain s l) h z i r = (r.0, flat_alternatives l, ap (λ x. x ∷ flat_alternatives l) r.1)
    ComesFirst-IsRaisedIn e (frame s closed w l) h z i r = absurd r
    ComesFirst-IsRaisedIn e (frame s first w l) h z i r =
        ComesFirst-append e (flat_slots w first (next_of s) s) (flat_alternatives l)
        (subst (λ x. ComesFirst e (flat_slots w first (next_of s) x)) (sym i.1.4)
        (ComesFirst-IsSlotRaised e w first (next_of s) i.1.0 i.1.1 i.1.2 i.1.3 (next_of-le s i.1.2 (ap next_of i.1.4)) i.1.5 (subst IsPlainBelow i.1.4 (IsPlainBelow-IsOf h z s i.0)) (Weak-Strong A renames locals w (next_of s) i.2) r))
    ComesFirst-IsRaisedIn e (frame s later w l) h z i r =
        ComesFirst-append e (flat_slots w later (next_of s) s) (flat_alternatives l)
        (subst (λ x. ComesFirst e (flat_slots w later (next_of s) x)) (sym i.1.4)
        (ComesFirst-IsSlotRaised e w later (next_of s) i.1.0 i.1.1 i.1.2 i.1.3 (next_of-le s i.1.2 (ap next_of i.1.4)) i.1.5 (subst IsPlainBelow i.1.4 (IsPlainBelow-IsOf h z s i.0)) (Weak-Pivot A renames locals w (next_of s) i.2) r))

    ComesFirst-IsSlotRaised : (e : Fault) (w : Slots) (round : Round) (b : ℕ) (K T : Trees) (n k : ℕ) → b ≤ n → AreApart (slot_goals w) → IsPlainBelow (state (append_trees (slot_goals w) K) T n k) → Weak A b w
        → IsSlotRaised e w → ComesFirst e (flat_slots w round b (state (append_trees (slot_goals w) K) T n k))
    ComesFirst-IsSlotRaised e no_slot round b K T n k bn ind o i r = absurd r
    ComesFirst-IsSlotRaised e (fresh g w) round b K T n k bn ind o i r = absurd r
    ComesFirst-IsSlotRaised e (stored g m w) round b K T n k bn ind o i r = absurd r
    ComesFirst-IsSlotRaised e (busy g t w) round b K T n k bn ind o i r = ComesFirst-grafts e b g (append_trees (slot_goals w) K) T n k (flat_task t) (ComesFirst-IsRaised e t g b i.1 r)
    ComesFirst-IsSlotRaised e (redone g m t j w) round b K T n k bn ind o i r = ComesFirst-grafts e b g (append_trees (slot_goals w) K) T n k (flat_task t) (ComesFirst-IsRaised e t g b i.1 r)
    ComesFirst-IsSlotRaised e (drained g m t j x w) round b K T n k bn ind o i r = ComesFirst-grafts e b g (append_trees (slot_goals w) K) T n k (flat_task t) (ComesFirst-IsRaised e t g b i.1 r)
    ComesFirst-IsSlotRaised e (held g m a t c w) round b K T n k bn ind o i r =
        let q = graft-answer g (slot_goals w) K T b n k a bn o ind.0 i.2 i.3.0 in
        ComesFirst-append e (flat_slots w round b (graft b (state (more g (append_trees (slot_goals w) K)) T n k) a)) (grafts b (state (more g (append_trees (slot_goals w) K)) T n k) (flat_task t))
        (subst (λ x. ComesFirst e (flat_slots w round b x)) (sym q.4) (ComesFirst-IsSlotRaised e w round b q.0 q.1 q.2 q.3 q.6 ind.1 q.5 i.4 r))
    ComesFirst-IsSlotRaised e (again g m a t c w) round b K T n k bn ind o i r =
        let q = graft-answer g (slot_goals w) K T b n k a bn o ind.0 i.2 i.3.0 in
        ComesFirst-append e (flat_slots w round b (graft b (state (more g (append_trees (slot_goals w) K)) T n k) a)) (grafts b (state (more g (append_trees (slot_goals w) K)) T n k) (flat_task t))
        (subst (λ x. ComesFirst e (flat_slots w round b x)) (sym q.4) (ComesFirst-IsSlotRaised e w round b q.0 q.1 q.2 q.3 q.6 ind.1 q.5 i.4 r))

-- ---- lines

cut-answers : (m : List Plain) → AllByRecursion IsAnswer m → (os : List Outcome) → cut_off (map outcome m ++ os) ≡ record { tuples = map tuple_of m ++ (cut_off os).tuples; fault = (cut_off os).fault }
cut-answers [] h os = refl
cut-answers (state none T n k ∷ m) h os = ap (put_before T) (cut-answers m h.1 os)
cut-answers (state (more g G) T n k ∷ m) h os = absurd h.0
cut-answers (faulted e k ∷ m) h os = absurd h.0

pub emitted_lines : EmittedLaw
emitted_lines line p good q below full emitted t runs = (begins, none_left, raised)
  where
    answers : (m : ℕ) × ((d : ℕ) → m ≤ d → outcomes_to_depth p q d ≡ map outcome emitted ++ flat_map (λ u. outcomes_to_depth p (as_state u) d) (flat_task t))
    answers = (rejoin p good q below full emitted t runs).0.0

    at : (d : ℕ) → answers.0 ≤ d → answers_to_depth p q d ≡ record { tuples = map tuple_of emitted ++ (cut_off (flat_map (λ u. outcomes_to_depth p (as_state u) d) (flat_task t))).tuples; fault = (cut_off (flat_map (λ u. outcomes_to_depth p (as_state u) d) (flat_task t))).fault }
    at d k = ap cut_off (answers.1 d k) ∙ cut-answers emitted (AreAnswers-Runs (plain_ways p) runs) (flat_map (λ u. outcomes_to_depth p (as_state u) d) (flat_task t))

    begins : Begins line p q (map line (map tuple_of emitted))
    begins = (
      answers.0,
      λ d k. (
        map line (cut_off (flat_map (λ u. outcomes_to_depth p (as_state u) d) (flat_task t))).tuples,
        sym (map-append line (map tuple_of emitted) (cut_off (flat_map (λ u. outcomes_to_depth p (as_state u) d) (flat_task t))).tuples) ∙ ap (λ a. map line a.tuples) (sym (at d k)),
      ),
    )

    -- where the cut of what is left is known
    up_to : (f : Option Fault) → ((d : ℕ) → cut_off (flat_map (λ u. outcomes_to_depth p (as_state u) d) (flat_task t)) ≡ record { tuples = []; fault = f }) → IsAllUpTo line p q f (map line (map tuple_of emitted))
    up_to f h = (
      answers.0,
      λ d k.
          let x : answers_to_depth p q d ≡ record { tuples = map tuple_of emitted ++ []; fault = f } = at d k ∙ ap (λ a. record { tuples = map tuple_of emitted ++ a.tuples; fault = a.fault }) (h d) in
          (ap (map line) (sym (append-nil (map tuple_of emitted))) ∙ ap (λ a. map line a.tuples) (sym x), ap (λ a. a.fault) (sym x)),
    )

    none_left : IsExhausted t → IsAllUpTo line p q None (map line (map tuple_of emitted))
    none_left h = up_to None (λ d. ap (λ l. cut_off (flat_map (λ u. outcomes_to_depth p (as_state u) d) l)) (flat_task-IsExhausted t h))

    raised : (e : Fault) → IsRaised e t → IsAllUpTo line p q (Some e) (map line (map tuple_of emitted))
    raised e r = up_to (Some e) (λ d. ap (λ l. cut_off (flat_map (λ u. outcomes_to_depth p (as_state u) d) l)) first.2 ∙ same d)
      where
        first : ComesFirst (plain_ways p) (renames p good) (locals p good) e (flat_task t)
        first = ComesFirst-IsRaised (plain_ways p) (renames p good) (locals p good) e t (node 0 q.tuple) 0 (Rejoins-base (plain_ways p) (renames p good) (locals p good) (node 0 q.tuple) 0 (plain_of q) (IsOf-plain_of q below) runs).0 r

        same : (d : ℕ) → cut_off (flat_map (λ u. outcomes_to_depth p (as_state u) d) (faulted e first.0 ∷ first.1)) ≡ record { tuples = []; fault = Some e }
        same d = ap (λ os. cut_off (os ++ flat_map (λ u. outcomes_to_depth p (as_state u) d) first.1)) (depths.finished p (as_state (faulted e first.0)) d refl)
