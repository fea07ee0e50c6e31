-- The answers to a depth and what a budget finds are views of the trace of a state's plain form.
use Rattle.std.proofs.Common.{◌≡◌, ℕ, zero, suc, ◌+◌, ◌-◌, ◌≤◌, true, false, List, [], ◌∷◌, ◌++◌, map, Option, Some, None, refl, ap, ap₂, sym, ◌∙◌, arith}
use Rattle.std.specs.List.{flat_map, AllByRecursion, list_all}
use Rattle.std.proofs.lemmas.Bool.{false≢true, and_parts}
use Rattle.std.proofs.lemmas.Grind.{flat_map-append}
use Rattle.std.proofs.lemmas.List.{map-append}
use Rattle.std.proofs.lemmas.List.Elements.{All-head, All-tail}
use Rattle.ap_term.specs.Tree.{Tree, Trees, none, more}
use Rattle.ap_term.specs.Substitution.{instance_all, Subst, value, shift}
use Rattle.ap_term.specs.Goals.{Part, call, group, Program, instance_part, calls, opened, plain_goals}
use Rattle.ap_term.specs.Builtins.{builtin}
use Rattle.ap_term.specs.WellFormed.{well_formed_part, numbered_check, IsClause, IsProgram}
use Rattle.ap_term.specs.declared.faults.Fault.{Fault}
use Rattle.ap_term.specs.Faults.{fault_of}
use Rattle.ap_term.specs.Search.{by_goals, State, Outcome, outcome_by, outcome_of, Way, way_if, clause_way, ways_by, ways_unless, ways, unless, child, children_by, children, outcomes_below, outcomes_to_depth, done, open_states, with_outcomes, turn, meets}
use Rattle.ap_term.specs.Laws.{HasGoals}
use Rattle.ap_term.proofs.SearchLaws.{AllSteps, children-steps, open-first}
use Rattle.ap_term.proofs.GoalLists.{plain_goals-append, plain_goals-instance, plain_goals-calls, plain_goals-opened}
use Rattle.ap_laws.specs.Plain.{Plain, state, faulted, Ways, outcome, steps_of, plain_by, plain_of, as_state, AreGroups, HasFullGroups, way_by, plain_way, plain_ways, plain_child, plain_children_by, plain_children}
use Rattle.ap_laws.specs.Trace.{Action, called, trace, trace_to, traces, answers_in, found_before, found_upto}
use Rattle.ap_term.proofs.Zips.{AllByRecursion-append}
use Rattle.ap_laws.proofs.Graft.{state-eq}
use Rattle.ap_laws.proofs.Traces.{answers_in-append, trace-more}

pub plain_by-None : (G T : Trees) (n k : ℕ) → plain_by None G T n k ≡ state G T n k
plain_by-None none T n k = refl
plain_by-None (more g G) T n k = refl

steps_of-plain_by : (f : Option Fault) (G T : Trees) (n k : ℕ) → steps_of (plain_by f G T n k) ≡ k
steps_of-plain_by f (more g G) T n k = refl
steps_of-plain_by None none T n k = refl
steps_of-plain_by (Some e) none T n k = refl

pub trace_to-plain_of : (A : Ways) (d : ℕ) (s : State) → trace_to A d (plain_of s) ≡ trace A (d - s.steps) (plain_of s)
trace_to-plain_of A d s = ap (λ k. trace A (d - k) (plain_of s)) (steps_of-plain_by s.fault (plain_goals s.goals) s.tuple s.next s.steps)

pub plain_of-as_state : (u : Plain) → plain_of (as_state u) ≡ u
plain_of-as_state (state G T n k) = plain_by-None (plain_goals (calls G)) T n k ∙ ap (λ z. state z T n k) (plain_goals-calls G)
plain_of-as_state (faulted e k) = refl

-- ---- children

abbrev pub StartsWithCall : List Part → Type 0
StartsWithCall [] = Unit {0}
StartsWithCall (call t ∷ ps) = Unit {0}
StartsWithCall (group cs ts ∷ ps) = ⊥

pub StartsWithCall-opened : (ps : List Part) → StartsWithCall (opened ps)
StartsWithCall-opened [] = tt
StartsWithCall-opened (call t ∷ ps) = tt
StartsWithCall-opened (group cs none ∷ ps) = StartsWithCall-opened ps
StartsWithCall-opened (group cs (more t ts) ∷ ps) = tt

plain_of-child : (s : State) (rest : List Part) (w : Way) → plain_of (child s rest w) ≡ plain_child (plain_goals rest) s.tuple s.next s.steps (plain_way w)
plain_of-child s rest w = go w.fault
  where
    go : (f : Option Fault)
        → plain_by f (plain_goals (unless f (map (instance_part (value w.binds)) (w.body ++ rest)))) (instance_all (value w.binds) s.tuple) (s.next + w.takes) (s.steps + 1)
        ≡ plain_child (plain_goals rest) s.tuple s.next s.steps (way_by f w)
    go None =
        plain_by-None (plain_goals (map (instance_part (value w.binds)) (w.body ++ rest))) (instance_all (value w.binds) s.tuple) (s.next + w.takes) (s.steps + 1)
        ∙ state-eq (plain_goals-instance (value w.binds) (w.body ++ rest) ∙ ap (instance_all (value w.binds)) (plain_goals-append w.body rest)) refl refl refl
    go (Some e) = refl

plain_of-children : (s : State) (rest : List Part) (ws : List Way)
    → map plain_of (map (child s rest) ws) ≡ plain_children_by (plain_goals rest) s.tuple s.next s.steps (map plain_way ws)
plain_of-children s rest [] = refl
plain_of-children s rest (w ∷ ws) = ap₂ (λ u l. u ∷ l) (plain_of-child s rest w) (plain_of-children s rest ws)

plain_of-children_by : (p : Program) (s : State) (ps : List Part) → StartsWithCall ps
    → map plain_of (children_by p s ps) ≡ plain_children (plain_ways p) (plain_by s.fault (plain_goals ps) s.tuple s.next s.steps)
plain_of-children_by p s [] h = go s.fault
  where
    go : (f : Option Fault) → [] ≡ plain_children (plain_ways p) (plain_by f none s.tuple s.next s.steps)
    go None = refl
    go (Some e) = refl
plain_of-children_by p s (call g ∷ rest) h = plain_of-children s rest (ways p s.next g)
plain_of-children_by p s (group cs ts ∷ rest) h = absurd h

-- the plain forms of the children are the children of the plain form
pub plain_children-plain_of : (p : Program) (s : State) → map plain_of (children p s) ≡ plain_children (plain_ways p) (plain_of s)
plain_children-plain_of p s =
    plain_of-children_by p s (opened s.goals) (StartsWithCall-opened s.goals)
    ∙ ap (λ G. plain_children (plain_ways p) (plain_by s.fault G s.tuple s.next s.steps)) (plain_goals-opened s.goals)

-- ---- groups have goals, and stay so

pub AreGroups-append : (ps qs : List Part) → AreGroups ps → AreGroups qs → AreGroups (ps ++ qs)
AreGroups-append [] qs h k = k
AreGroups-append (call t ∷ ps) qs h k = AreGroups-append ps qs h k
AreGroups-append (group cs none ∷ ps) qs h k = absurd h
AreGroups-append (group cs (more t ts) ∷ ps) qs h k = AreGroups-append ps qs h k

pub AreGroups-instance : (f : ℕ → Tree) (ps : List Part) → AreGroups ps → AreGroups (map (instance_part f) ps)
AreGroups-instance f [] h = tt
AreGroups-instance f (call t ∷ ps) h = AreGroups-instance f ps h
AreGroups-instance f (group cs none ∷ ps) h = absurd h
AreGroups-instance f (group cs (more t ts) ∷ ps) h = AreGroups-instance f ps h

pub AreGroups-calls : (ts : Trees) → AreGroups (calls ts)
AreGroups-calls none = tt
AreGroups-calls (more t ts) = AreGroups-calls ts

pub AreGroups-opened : (ps : List Part) → AreGroups ps → AreGroups (opened ps)
AreGroups-opened [] h = tt
AreGroups-opened (call t ∷ ps) h = h
AreGroups-opened (group cs none ∷ ps) h = absurd h
AreGroups-opened (group cs (more t ts) ∷ ps) h = AreGroups-append (calls ts) ps (AreGroups-calls ts) h

pub AreGroups-well_formed : (n : ℕ) (ps : List Part) → list_all (well_formed_part n) ps ≡ true → AreGroups ps
AreGroups-well_formed n [] h = tt
AreGroups-well_formed n (call t ∷ ps) h = AreGroups-well_formed n ps (and_parts _ (list_all (well_formed_part n) ps) h).1
AreGroups-well_formed n (group cs none ∷ ps) h =
    let r = and_parts (well_formed_part n (group cs none)) (list_all (well_formed_part n) ps) h in
    let q = and_parts (list_all (numbered_check n) cs) _ r.0 in
    absurd (false≢true q.1)
AreGroups-well_formed n (group cs (more t ts) ∷ ps) h = AreGroups-well_formed n ps (and_parts (well_formed_part n (group cs (more t ts))) (list_all (well_formed_part n) ps) h).1

abbrev HasGroups : Way → Type 0
HasGroups w = AreGroups w.body

HasGroups-way_if : (o : Option Subst) (b : List Part) (k : ℕ) → AreGroups b → AllByRecursion HasGroups (way_if o b k)
HasGroups-way_if None b k h = tt
HasGroups-way_if (Some s) b k h = (h, tt)

HasGroups-clause_ways : (n : ℕ) (g : Tree) (p : Program) → IsProgram p → AllByRecursion HasGroups (flat_map (clause_way n g) p)
HasGroups-clause_ways n g [] h = tt
HasGroups-clause_ways n g (c ∷ p) h =
    AllByRecursion-append HasGroups (clause_way n g c) (flat_map (clause_way n g) p)
    (HasGroups-way_if _ _ (c.vars + 1) (AreGroups-instance (shift n) c.body (AreGroups-well_formed c.vars c.body (All-head IsClause c p h).body)))
    (HasGroups-clause_ways n g p (All-tail IsClause c p h))

HasGroups-ways_by : (p : Program) → IsProgram p → (n : ℕ) (g : Tree) (a : Option (Option Subst)) → AllByRecursion HasGroups (ways_by p n g a)
HasGroups-ways_by p h n g None = HasGroups-clause_ways n g p h
HasGroups-ways_by p h n g (Some o) = HasGroups-way_if o [] 0 tt

HasGroups-ways_unless : (f : Option Fault) (ws : List Way) → AllByRecursion HasGroups ws → AllByRecursion HasGroups (ways_unless f ws)
HasGroups-ways_unless None ws h = h
HasGroups-ways_unless (Some e) ws h = (tt, tt)

HasFullGroups-child : (s : State) (rest : List Part) → AreGroups rest → (ws : List Way) → AllByRecursion HasGroups ws → AllByRecursion HasFullGroups (map (child s rest) ws)
HasFullGroups-child s rest h [] k = tt
HasFullGroups-child s rest h (w ∷ ws) k = (go w.fault (AreGroups-instance (value w.binds) (w.body ++ rest) (AreGroups-append w.body rest k.0 h)), HasFullGroups-child s rest h ws k.1)
  where
    go : (f : Option Fault) → AreGroups (map (instance_part (value w.binds)) (w.body ++ rest)) → AreGroups (unless f (map (instance_part (value w.binds)) (w.body ++ rest)))
    go None h = h
    go (Some e) h = tt

HasFullGroups-children_by : (p : Program) → IsProgram p → (s : State) (ps : List Part) → AreGroups ps → AllByRecursion HasFullGroups (children_by p s ps)
HasFullGroups-children_by p good s [] h = tt
HasFullGroups-children_by p good s (call g ∷ rest) h = HasFullGroups-child s rest h (ways p s.next g) (HasGroups-ways_unless (fault_of g) (ways_by p s.next g (builtin g)) (HasGroups-ways_by p good s.next g (builtin g)))
HasFullGroups-children_by p good s (group cs ts ∷ rest) h = tt

pub HasFullGroups-children : (p : Program) → IsProgram p → (s : State) → HasFullGroups s → AllByRecursion HasFullGroups (children p s)
HasFullGroups-children p good s h = HasFullGroups-children_by p good s (opened s.goals) (AreGroups-opened s.goals h)

-- ---- answers to a depth

module _ (p : Program) (good : IsProgram p) where
  abbrev tuples : List Action → List Outcome
  tuples es = map outcome (answers_in es)

  tuples-append : (a b : List Action) → tuples (a ++ b) ≡ tuples a ++ tuples b
  tuples-append a b = ap (map outcome) (answers_in-append a b) ∙ map-append outcome (answers_in a) (answers_in b)

  tuples-flat_map : (F : State → List Outcome) (G : Plain → List Action) → ((s : State) → HasFullGroups s → F s ≡ tuples (G (plain_of s))) → (ss : List State) → AllByRecursion HasFullGroups ss
      → flat_map F ss ≡ tuples (flat_map G (map plain_of ss))
  tuples-flat_map F G e [] h = refl
  tuples-flat_map F G e (s ∷ ss) h =
      ap₂ (λ a b. a ++ b) (e s h.0) (tuples-flat_map F G e ss h.1) ∙ sym (tuples-append (G (plain_of s)) (flat_map G (map plain_of ss)))

  -- the answers of a state's trace
  pub answers_below-trace : (r : ℕ) (s : State) → HasFullGroups s → outcomes_below p r s ≡ tuples (trace (plain_ways p) r (plain_of s))
  unfolding trace
  answers_below-trace zero s h = go s.goals (plain_goals s.goals) h refl
    where
      ended : (f : Option Fault) → outcome_by f s.tuple ∷ [] ≡ tuples (trace (plain_ways p) zero (plain_by f none s.tuple s.next s.steps))
      ended None = refl
      ended (Some e) = refl

      go : (ps : List Part) (G : Trees) → AreGroups ps → plain_goals ps ≡ G → by_goals ps (outcome_of s ∷ []) [] ≡ tuples (trace (plain_ways p) zero (plain_by s.fault G s.tuple s.next s.steps))
      go [] none h e = ended s.fault
      go [] (more g G) h e = cc
      go (call t ∷ ps) none h e = cc
      go (call t ∷ ps) (more g G) h e = refl
      go (group cs none ∷ ps) none h e = absurd h
      go (group cs none ∷ ps) (more g G) h e = absurd h
      go (group cs (more t ts) ∷ ps) none h e = cc
      go (group cs (more t ts) ∷ ps) (more g G) h e = refl
  answers_below-trace (suc r) s h =
      go s.goals (plain_goals s.goals) h refl
      (tuples-flat_map (outcomes_below p r) (λ u. trace (plain_ways p) r u) (answers_below-trace r) (children p s) (HasFullGroups-children p good s h)
      ∙ ap (λ l. tuples (flat_map (λ u. trace (plain_ways p) r u) l)) (plain_children-plain_of p s))
    where
      ended : (f : Option Fault) → outcome_by f s.tuple ∷ [] ≡ tuples (trace (plain_ways p) (suc r) (plain_by f none s.tuple s.next s.steps))
      ended None = refl
      ended (Some e) = refl

      go : (ps : List Part) (G : Trees) → AreGroups ps → plain_goals ps ≡ G
          → flat_map (outcomes_below p r) (children p s) ≡ tuples (flat_map (λ u. trace (plain_ways p) r u) (plain_children (plain_ways p) (plain_by s.fault G s.tuple s.next s.steps)))
          → by_goals ps (outcome_of s ∷ []) (flat_map (outcomes_below p r) (children p s)) ≡ tuples (trace (plain_ways p) (suc r) (plain_by s.fault G s.tuple s.next s.steps))
      go [] none h e k = ended s.fault
      go [] (more g G) h e k = cc
      go (call t ∷ ps) none h e k = cc
      go (call t ∷ ps) (more g G) h e k = k
      go (group cs none ∷ ps) none h e k = absurd h
      go (group cs none ∷ ps) (more g G) h e k = absurd h
      go (group cs (more t ts) ∷ ps) none h e k = cc
      go (group cs (more t ts) ∷ ps) (more g G) h e k = k

  pub answers_to_depth-trace : (d : ℕ) (s : State) → HasFullGroups s → outcomes_to_depth p s d ≡ tuples (trace_to (plain_ways p) d (plain_of s))
  answers_to_depth-trace d s h = answers_below-trace (d - s.steps) s h ∙ ap tuples (sym (trace_to-plain_of (plain_ways p) d s))

  -- ---- budgets

  -- the states that are finished come first
  found_upto-done : (n d : ℕ) (ss : List State) → AllByRecursion HasFullGroups ss
      → found_upto n (traces (plain_ways p) d (map plain_of ss)) ≡ with_outcomes (done ss) (found_upto n (traces (plain_ways p) d (map plain_of (open_states ss))))
  unfolding trace
  found_upto-done zero d [] h = refl
  found_upto-done (suc n) d [] h = refl
  found_upto-done n d (s ∷ ss) h =
      ap (λ t. found_upto n (t ++ traces (plain_ways p) d (map plain_of ss))) (trace_to-plain_of (plain_ways p) d s)
      ∙ go n s.goals (plain_goals s.goals) h.0 refl refl (found_upto-done n d ss h.1)
    where
      ended : (n : ℕ) (f : Option Fault) (es : List Action)
          → found_upto n (trace (plain_ways p) (d - s.steps) (plain_by f none s.tuple s.next s.steps) ++ es) ≡ found_before (outcome_by f s.tuple) (found_upto n es)
      ended n None es = refl
      ended n (Some e) es = refl

      still : (n : ℕ) (ps : List Part) (G : Trees) → plain_goals ps ≡ G → s.goals ≡ ps
          → found_upto n (trace (plain_ways p) (d - s.steps) (plain_by s.fault G s.tuple s.next s.steps) ++ traces (plain_ways p) d (map plain_of ss))
          ≡ found_upto n (traces (plain_ways p) d (map plain_of (s ∷ ss)))
      still n ps G e q =
          ap (λ z. found_upto n (trace (plain_ways p) (d - s.steps) (plain_by s.fault z s.tuple s.next s.steps) ++ traces (plain_ways p) d (map plain_of ss))) (sym e ∙ ap plain_goals (sym q))
          ∙ sym (ap (λ t. found_upto n (t ++ traces (plain_ways p) d (map plain_of ss))) (trace_to-plain_of (plain_ways p) d s))

      go : (n : ℕ) (ps : List Part) (G : Trees) → AreGroups ps → plain_goals ps ≡ G → s.goals ≡ ps
          → found_upto n (traces (plain_ways p) d (map plain_of ss)) ≡ with_outcomes (done ss) (found_upto n (traces (plain_ways p) d (map plain_of (open_states ss))))
          → found_upto n (trace (plain_ways p) (d - s.steps) (plain_by s.fault G s.tuple s.next s.steps) ++ traces (plain_ways p) d (map plain_of ss))
          ≡ with_outcomes (by_goals ps (outcome_of s ∷ done ss) []) (found_upto n (traces (plain_ways p) d (map plain_of (by_goals ps (open_states ss) (s ∷ ss)))))
      go n [] none h e q ih = ended n s.fault (traces (plain_ways p) d (map plain_of ss)) ∙ ap (found_before (outcome_of s)) ih
      go n [] (more g G) h e q ih = cc
      go n (call t ∷ ps) G h e q ih = still n (call t ∷ ps) G e q
      go n (group cs none ∷ ps) G h e q ih = absurd h
      go n (group cs (more t ts) ∷ ps) G h e q ih = still n (group cs (more t ts) ∷ ps) G e q

  abbrev IsNear : ℕ → ℕ → State → Type 0
  IsNear d n s = n + s.steps ≤ d

  IsNear-open_states : (d n : ℕ) (ss : List State) → AllByRecursion (IsNear d n) ss → AllByRecursion (IsNear d n) (open_states ss)
  IsNear-open_states d n [] h = tt
  IsNear-open_states d n (s ∷ ss) h = go s.goals (IsNear-open_states d n ss h.1)
    where
      go : (ps : List Part) → AllByRecursion (IsNear d n) (open_states ss) → AllByRecursion (IsNear d n) (by_goals ps (open_states ss) (s ∷ ss))
      go [] ih = ih
      go (q ∷ ps) ih = h

  HasFullGroups-open_states : (ss : List State) → AllByRecursion HasFullGroups ss → AllByRecursion HasFullGroups (open_states ss)
  HasFullGroups-open_states [] h = tt
  HasFullGroups-open_states (s ∷ ss) h = go s.goals (HasFullGroups-open_states ss h.1)
    where
      go : (ps : List Part) → AllByRecursion HasFullGroups (open_states ss) → AllByRecursion HasFullGroups (by_goals ps (open_states ss) (s ∷ ss))
      go [] ih = ih
      go (q ∷ ps) ih = h

  IsNear-AllSteps : (d n k : ℕ) → suc n + k ≤ d → (ss : List State) → AllSteps (k + 1) ss → AllByRecursion (IsNear d n) ss
  IsNear-AllSteps d n k h [] q = tt
  IsNear-AllSteps d n k h (s ∷ ss) q = (omega (arith, q.0), IsNear-AllSteps d n k h ss q.1)

  IsNear-less : (d n : ℕ) (ss : List State) → AllByRecursion (IsNear d (suc n)) ss → AllByRecursion (IsNear d n) ss
  IsNear-less d n [] h = tt
  IsNear-less d n (s ∷ ss) h = (omega (arith, h.0), IsNear-less d n ss h.1)

  -- a state with goals calls the first one
  found_upto-zero : (d : ℕ) (t : State) → HasFullGroups t → HasGoals t.goals → (es : List Action)
      → found_upto zero (trace_to (plain_ways p) d (plain_of t) ++ es) ≡ record { outcomes = []; ended = false }
  unfolding trace
  found_upto-zero d t h k es = ap (λ z. found_upto zero (z ++ es)) (trace_to-plain_of (plain_ways p) d t) ∙ go t.goals (plain_goals t.goals) (d - t.steps) h k refl
    where
      go : (ps : List Part) (G : Trees) (r : ℕ) → AreGroups ps → HasGoals ps → plain_goals ps ≡ G → found_upto zero (trace (plain_ways p) r (plain_by t.fault G t.tuple t.next t.steps) ++ es) ≡ record { outcomes = []; ended = false }
      go [] G r h k e = absurd k
      go (call a ∷ ps) none r h k e = cc
      go (call a ∷ ps) (more g G) zero h k e = refl
      go (call a ∷ ps) (more g G) (suc r) h k e = refl
      go (group cs none ∷ ps) G r h k e = absurd h
      go (group cs (more a as') ∷ ps) none r h k e = cc
      go (group cs (more a as') ∷ ps) (more g G) zero h k e = refl
      go (group cs (more a as') ∷ ps) (more g G) (suc r) h k e = refl

  trace-turn : (d n : ℕ) (t : State) → HasFullGroups t → HasGoals t.goals → suc n + t.steps ≤ d → trace_to (plain_ways p) d (plain_of t) ≡ called ∷ traces (plain_ways p) d (map plain_of (children p t))
  trace-turn d n t h k l = trace_to-plain_of (plain_ways p) d t ∙ go t.goals (plain_goals t.goals) h k refl (plain_children-plain_of p t)
    where
      go : (ps : List Part) (G : Trees) → AreGroups ps → HasGoals ps → plain_goals ps ≡ G → map plain_of (children p t) ≡ plain_children (plain_ways p) (plain_by t.fault G t.tuple t.next t.steps)
          → trace (plain_ways p) (d - t.steps) (plain_by t.fault G t.tuple t.next t.steps) ≡ called ∷ traces (plain_ways p) d (map plain_of (children p t))
      go [] G h k e q = absurd k
      go (call a ∷ ps) none h k e q = cc
      go (call a ∷ ps) (more g G) h k e q = trace-more (plain_ways p) d t.steps (d - suc t.steps) (omega arith) g G t.tuple t.next ∙ ap (λ l. called ∷ traces (plain_ways p) d l) (sym q)
      go (group cs none ∷ ps) G h k e q = absurd h
      go (group cs (more a as') ∷ ps) none h k e q = cc
      go (group cs (more a as') ∷ ps) (more g G) h k e q = trace-more (plain_ways p) d t.steps (d - suc t.steps) (omega arith) g G t.tuple t.next ∙ ap (λ l. called ∷ traces (plain_ways p) d l) (sym q)

  -- what a budget finds is the trace up to its next call, to each depth that leaves so many calls
  pub search-trace : (d n : ℕ) (ss : List State) → AllByRecursion HasFullGroups ss → AllByRecursion (IsNear d n) ss → meets p n ss ≡ found_upto n (traces (plain_ways p) d (map plain_of ss))
  search-trace d zero ss h l = go (open_states ss) refl (HasFullGroups-open_states ss h) ∙ sym (found_upto-done zero d ss h)
    where
      go : (os : List State) → open_states ss ≡ os → AllByRecursion HasFullGroups os
          → with_outcomes (done ss) (turn (λ t ts. record { outcomes = []; ended = false }) os) ≡ with_outcomes (done ss) (found_upto zero (traces (plain_ways p) d (map plain_of os)))
      go [] e q = refl
      go (t ∷ ts) e q = ap (with_outcomes (done ss)) (sym (found_upto-zero d t q.0 (open-first ss t ts e) (traces (plain_ways p) d (map plain_of ts))))
  search-trace d (suc n) ss h l = go (open_states ss) refl (HasFullGroups-open_states ss h) (IsNear-open_states d (suc n) ss l) (search-trace d n) ∙ sym (found_upto-done (suc n) d ss h)
    where
      go : (os : List State) → open_states ss ≡ os → AllByRecursion HasFullGroups os → AllByRecursion (IsNear d (suc n)) os
          → ((ts : List State) → AllByRecursion HasFullGroups ts → AllByRecursion (IsNear d n) ts → meets p n ts ≡ found_upto n (traces (plain_ways p) d (map plain_of ts)))
          → with_outcomes (done ss) (turn (λ t ts. meets p n (children p t ++ ts)) os) ≡ with_outcomes (done ss) (found_upto (suc n) (traces (plain_ways p) d (map plain_of os)))
      go [] e q l ih = refl
      go (t ∷ ts) e q l ih =
          ap (with_outcomes (done ss))
          (ih (children p t ++ ts) (AllByRecursion-append HasFullGroups (children p t) ts (HasFullGroups-children p good t q.0) q.1)
          (AllByRecursion-append (IsNear d n) (children p t) ts (IsNear-AllSteps d n t.steps l.0 (children p t) (children-steps p t)) (IsNear-less d n ts l.1))
          ∙ ap (λ us. found_upto n (traces (plain_ways p) d us)) (map-append plain_of (children p t) ts)
          ∙ ap (found_upto n) (flat_map-append (λ u. trace_to (plain_ways p) d u) (map plain_of (children p t)) (map plain_of ts))
          ∙ sym (ap (λ es. found_upto (suc n) (es ++ traces (plain_ways p) d (map plain_of ts))) (trace-turn d n t q.0 (open-first ss t ts e) l.0)))
