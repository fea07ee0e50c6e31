-- The search of a query by a call of `?-`, beside a program with groups, does what the search of the query does.
use Rattle.std.proofs.Common.{◌≡◌, ℕ, zero, suc, ◌+◌, ◌-◌, ◌≤◌, List, [], ◌∷◌, ◌++◌, map, Option, Some, None, refl, ap, ap₂, sym, ◌∙◌, subst, arith}
use Rattle.std.specs.List.{flat_map, AllByRecursion}
use Rattle.std.proofs.lemmas.Grind.{flat_map-append}
use Rattle.std.proofs.lemmas.List.{map-append}
use Rattle.ap_term.specs.declared.fixed.TheConstants.{QUERY}
use Rattle.ap_term.specs.Tree.{Tree, Trees, none, more, append_trees}
use Rattle.ap_term.specs.Substitution.{instance, instance_all, Subst, value, shift}
use Rattle.ap_term.specs.Unification.{mgu}
use Rattle.ap_term.specs.Builtins.{builtin}
use Rattle.ap_term.specs.Goals.{Part, Clause, Program, Query, joined, instance_part, plain_goals}
use Rattle.ap_term.specs.WellFormed.{IsProgram, IsQuery}
use Rattle.ap_term.specs.Search.{State, cut, meets, found_by, search, start, outcomes_to_depth, answers_to_depth, ways_by, clause_way, way_if, variables}
use Rattle.ap_term.proofs.GoalLists.{plain_goals-instance}
use Rattle.ap_term.proofs.Zips.{AllByRecursion-append}
use Rattle.ap_laws.specs.Plain.{Plain, state, faulted, PlainWay, way, fault_way, Ways, plain_way, plain_ways, plain_by, plain_of, goals_left, outcome, plain_children_by, steps_of, HasFullGroups}
use Rattle.ap_laws.specs.Trace.{Action, called, trace, trace_to, traces, answers_in, found_upto}
use Rattle.ap_laws.proofs.Conjunctions.{query, traced}
use Rattle.ap_laws.proofs.Views.{plain_by-None}
use Rattle.ap_cge.specs.Stripped.{stripped_clause, stripped}
use Rattle.ap_instr.specs.StandsFor.{asked, asked_query}
use Rattle.ap_instr.specs.Runs.{applied}
use Rattle.ap_graft.specs.Uncalled.{IsOther, AreOthers, NeverCalls, HasName}
use Rattle.ap_graft.proofs.Uncalled.{no-unifier, instance-other, middle}
use Rattle.ap_open.specs.Reading.{AreRead}
use Rattle.ap_open.proofs.Stripping.{plain_stripped}

-- ---- goals of other names

instances_other : (a : ℕ) (f : ℕ → Tree) (ts : Trees) → AreOthers a ts → AreOthers a (instance_all f ts)
instances_other a f none h = tt
instances_other a f (more t ts) h = (instance-other a f t h.0, instances_other a f ts h.1)

pub append_other : (a : ℕ) (ts us : Trees) → AreOthers a ts → AreOthers a us → AreOthers a (append_trees ts us)
append_other a none us h k = k
append_other a (more t ts) us h k = (h.0, append_other a ts us h.1 k)

pub applied_named : (a : ℕ) (ts : Trees) → HasName a (applied a ts)
applied_named a none = refl
applied_named a (more t ts) = refl

-- ---- ways on

module _ (n : ℕ) (g : Tree) where
  abbrev by_clause : Clause → List PlainWay
  by_clause c = map plain_way (clause_way n g c)

  abbrev by_clauses : Program → List PlainWay
  by_clauses p = map plain_way (flat_map (clause_way n g) p)

  clause_stripped : (c : Clause) → by_clause (stripped_clause c) ≡ by_clause c
  clause_stripped c = go (mgu g (instance (shift n) c.head))
    where
      body : plain_goals (map (instance_part (shift n)) (stripped_clause c).body) ≡ plain_goals (map (instance_part (shift n)) c.body)
      body = plain_goals-instance (shift n) (stripped_clause c).body ∙ ap (instance_all (shift n)) (plain_stripped c.body) ∙ sym (plain_goals-instance (shift n) c.body)

      go : (o : Option Subst) → map plain_way (way_if o (map (instance_part (shift n)) (stripped_clause c).body) (c.vars + 1)) ≡ map plain_way (way_if o (map (instance_part (shift n)) c.body) (c.vars + 1))
      go None = refl
      go (Some s) = ap (λ (b : Trees). way s b (c.vars + 1) ∷ []) body

  clauses_more : (c : Clause) (p : Program) → by_clauses (c ∷ p) ≡ by_clause c ++ by_clauses p
  clauses_more c p = map-append plain_way (clause_way n g c) (flat_map (clause_way n g) p)

  clauses_append : (p r : Program) → by_clauses (p ++ r) ≡ by_clauses p ++ by_clauses r
  clauses_append p r = ap (map plain_way) (flat_map-append (clause_way n g) p r) ∙ map-append plain_way (flat_map (clause_way n g) p) (flat_map (clause_way n g) r)

  clauses_stripped : (p : Program) → by_clauses (stripped p) ≡ by_clauses p
  clauses_stripped [] = refl
  clauses_stripped (c ∷ p) = clauses_more (stripped_clause c) (stripped p) ∙ ap₂ (λ x y. x ++ y) (clause_stripped c) (clauses_stripped p) ∙ sym (clauses_more c p)

  clauses_same : (p r : Program) → stripped p ≡ stripped r → by_clauses p ≡ by_clauses r
  clauses_same p r e = sym (clauses_stripped p) ∙ ap by_clauses e ∙ clauses_stripped r

  clause_none : (a : ℕ) (c : Clause) → IsOther a g → HasName a c.head → by_clause c ≡ []
  clause_none a c o h = ap (λ m. map plain_way (way_if m (map (instance_part (shift n)) c.body) (c.vars + 1))) (no-unifier a (shift n) g c.head o h)

  clauses_asked : (a : ℕ) (p r l m : Program) (c d : Clause) → IsOther a g → HasName a c.head → HasName a d.head → stripped p ≡ stripped r → stripped l ≡ stripped m → by_clauses (p ++ c ∷ l) ≡ by_clauses (r ++ d ∷ m)
  clauses_asked a p r l m c d o hc hd e f =
      clauses_append p (c ∷ l)
      ∙ ap₂ (λ x y. x ++ y) (clauses_same p r e)
      (clauses_more c l ∙ ap₂ (λ x y. x ++ y) (clause_none a c o hc ∙ sym (clause_none a d o hd)) (clauses_same l m f) ∙ sym (clauses_more d m))
      ∙ sym (clauses_append r (d ∷ m))

-- ---- ways to goals of other names

abbrev WayIsOther : ℕ → PlainWay → Type 0
WayIsOther a (way s b u) = AreOthers a b
WayIsOther a (fault_way e) = Unit {0}

ways_if_other : (a : ℕ) (o : Option Subst) (body : List Part) (n : ℕ) → AreOthers a (plain_goals body) → AllByRecursion (WayIsOther a) (map plain_way (way_if o body n))
ways_if_other a None body n h = tt
ways_if_other a (Some s) body n h = (h, tt)

clause_ways_other : (a n : ℕ) (g : Tree) (p : Program) → NeverCalls a p → AllByRecursion (WayIsOther a) (by_clauses n g p)
clause_ways_other a n g [] h = tt
clause_ways_other a n g (c ∷ p) h =
    subst (AllByRecursion (WayIsOther a)) (sym (clauses_more n g c p))
    (AllByRecursion-append (WayIsOther a) (by_clause n g c) (by_clauses n g p)
    (ways_if_other a (mgu g (instance (shift n) c.head)) (map (instance_part (shift n)) c.body) (c.vars + 1)
    (subst (AreOthers a) (sym (plain_goals-instance (shift n) c.body)) (instances_other a (shift n) (plain_goals c.body) h.0)))
    (clause_ways_other a n g p h.1))

ways_other : (a : ℕ) (p : Program) → NeverCalls a p → (g : Tree) (n : ℕ) → AllByRecursion (WayIsOther a) (plain_ways p g n)
ways_other a p h g n = go (builtin g)
  where
    go : (o : Option (Option Subst)) → AllByRecursion (WayIsOther a) (map plain_way (ways_by p n g o))
    go None = clause_ways_other a n g p h
    go (Some o) = ways_if_other a o [] 0 tt

-- ---- traces

module _ (a : ℕ) (A B : Ways) (same : (g : Tree) (n : ℕ) → IsOther a g → A g n ≡ B g n) (others : (g : Tree) (n : ℕ) → AllByRecursion (WayIsOther a) (B g n)) where
  abbrev IsOtherState : Plain → Type 0
  IsOtherState s = AreOthers a (goals_left s)

  children_other : (G T : Trees) (n k : ℕ) (l : List PlainWay) → AreOthers a G → AllByRecursion (WayIsOther a) l → AllByRecursion IsOtherState (plain_children_by G T n k l)
  children_other G T n k [] h r = tt
  children_other G T n k (way s b u ∷ l) h r = (instances_other a (value s) (append_trees b G) (append_other a b G r.0 h), children_other G T n k l h r.1)
  children_other G T n k (fault_way e ∷ l) h r = (tt, children_other G T n k l h r.1)

  flat_same : (f g : Plain → List Action) (l : List Plain) → ((s : Plain) → IsOtherState s → f s ≡ g s) → AllByRecursion IsOtherState l → flat_map f l ≡ flat_map g l
  flat_same f g [] e h = refl
  flat_same f g (s ∷ l) e h = ap₂ (λ x y. x ++ y) (e s h.0) (flat_same f g l e h.1)

  pub same_trace : (r : ℕ) (s : Plain) → IsOtherState s → trace A r s ≡ trace B r s
  unfolding trace
  same_trace zero (state none T n k) h = refl
  same_trace (suc r) (state none T n k) h = refl
  same_trace zero (faulted e k) h = refl
  same_trace (suc r) (faulted e k) h = refl
  same_trace zero (state (more g G) T n k) h = refl
  same_trace (suc r) (state (more g G) T n k) h =
      ap (λ l. called ∷ flat_map (λ s. trace A r s) (plain_children_by G T n k l)) (same g n h.0)
      ∙ ap (λ es. called ∷ es) (flat_same (λ s. trace A r s) (λ s. trace B r s) (plain_children_by G T n k (B g n)) (same_trace r) (children_other G T n k (B g n) h.1 (others g n)))

-- ---- the searches

-- what a budget finds, by the plain form of where the search begins
meets_plain : (p : Program) → IsProgram p → (s : State) → HasFullGroups s → s.steps ≡ 0 → (n : ℕ) → meets p n (s ∷ []) ≡ found_upto n (traces (plain_ways p) n (plain_of s ∷ []))
meets_plain p good s full fresh n = (traced p good).3 (s ∷ []) (full, tt) n n ((let l : n + s.steps ≤ n = omega (arith, fresh) in l), tt)

module _ (program b : Program) (asks q : Query) (good : IsProgram (joined program asks)) (is : IsQuery asks) (good_asked : IsProgram (joined b (asked_query q))) (is_asked : IsQuery q) (read : AreRead program asks b q)
    (never : NeverCalls QUERY (joined program asks)) where
  abbrev PA : Program
  PA = joined b (asked_query q)

  abbrev PB : Program
  PB = joined program asks

  same_ways : (g : Tree) (n : ℕ) → IsOther QUERY g → plain_ways PA g n ≡ plain_ways PB g n
  same_ways g n o = go (builtin g)
    where
      go : (x : Option (Option Subst)) → map plain_way (ways_by PA n g x) ≡ map plain_way (ways_by PB n g x)
      go None =
          clauses_asked n g QUERY b program q.lifted asks.lifted (asked q) asks.question o (applied_named QUERY (variables q.question.vars)) (subst (HasName QUERY) (sym is.head) refl) read.same_program read.same_lifted
      go (Some x) = refl

  body_same : plain_goals q.question.body ≡ plain_goals asks.question.body
  body_same = sym (plain_stripped q.question.body) ∙ ap (λ c. plain_goals c.body) read.same_question ∙ plain_stripped asks.question.body

  start_same : plain_of (start q) ≡ plain_of (start asks)
  start_same = ap₂ (λ G v. plain_by None G (variables v) (v + 1) 0) body_same (ap (λ c. c.vars) read.same_question)

  first_other : AreOthers QUERY (goals_left (plain_of (start asks)))
  first_other =
      subst (λ s. AreOthers QUERY (goals_left s)) (sym (plain_by-None (plain_goals asks.question.body) (variables asks.question.vars) (asks.question.vars + 1) 0)) (middle QUERY program asks.lifted asks.question never)

  trace_same : (d : ℕ) → trace_to (plain_ways PA) d (plain_of (start asks)) ≡ trace_to (plain_ways PB) d (plain_of (start asks))
  trace_same d = same_trace QUERY (plain_ways PA) (plain_ways PB) same_ways (ways_other QUERY PB never) (d - steps_of (plain_of (start asks))) (plain_of (start asks)) first_other

  same_meets : (n : ℕ) → meets PA n (start q ∷ []) ≡ meets PB n (start asks ∷ [])
  same_meets n =
      meets_plain PA good_asked (start q) (query q is_asked).1 refl n ∙ ap (λ s. found_upto n (traces (plain_ways PA) n (s ∷ []))) start_same
      ∙ ap (λ es. found_upto n (es ++ [])) (trace_same n) ∙ sym (meets_plain PB good (start asks) (query asks is).1 refl n)

  same_outcomes : (d : ℕ) → outcomes_to_depth PA (start q) d ≡ outcomes_to_depth PB (start asks) d
  same_outcomes d =
      (traced PA good_asked).2 (start q) (query q is_asked).1 d ∙ ap (λ s. map outcome (answers_in (trace_to (plain_ways PA) d s))) start_same
      ∙ ap (λ es. map outcome (answers_in es)) (trace_same d) ∙ sym ((traced PB good).2 (start asks) (query asks is).1 d)

  pub same_search : (n : ℕ) → search PA n (start q ∷ []) ≡ search PB n (start asks ∷ [])
  same_search n = ap (λ m. found_by (cut m.outcomes) m.ended) (same_meets n)

  pub same_answers : (d : ℕ) → answers_to_depth PA (start q) d ≡ answers_to_depth PB (start asks) d
  same_answers d = ap cut (same_outcomes d)
