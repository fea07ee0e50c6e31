-- No search meets a fault, as long as no goal's call ends one by it.
use Rattle.std.proofs.Common.{◌≡◌, ℕ, zero, suc, ◌-◌, List, [], ◌∷◌, ◌++◌, Option, Some, None, refl, ◌∙◌, arith}
use Rattle.std.specs.Prelude.{false}
use Rattle.std.specs.List.{flat_map, AllByRecursion}
use Rattle.ap_term.specs.declared.faults.Fault.{Fault}
use Rattle.ap_term.specs.Tree.{Tree}
use Rattle.ap_term.specs.Substitution.{Subst}
use Rattle.ap_term.specs.Goals.{Part, call, group, Program, opened}
use Rattle.ap_term.specs.Builtins.{builtin}
use Rattle.ap_term.specs.Search.{State, way_if, clause_way, ways_by, ways, child, children_by, children, by_goals, Outcome, answer, fails_by, outcome_by, outcome_of, outcomes_below, done, open_states, turn, meets, cut}
use Rattle.ap_term.specs.Laws.{NoFaultLaw}
use Rattle.ap_term.proofs.Zips.{AllByRecursion-append, AllByRecursion-map, AllByRecursion-flat_map}

abbrev IsWithout : State → Type 0
IsWithout s = s.fault ≡ None

abbrev IsAnswer : Outcome → Type 0
IsAnswer (answer ts) = Unit {0}
IsAnswer (fails_by e) = ⊥

-- ---- children

way_if-none : (o : Option Subst) (ps : List Part) (n : ℕ) → AllByRecursion (λ w. w.fault ≡ None) (way_if o ps n)
way_if-none None ps n = tt
way_if-none (Some s) ps n = (refl, tt)

clauses-none : (n : ℕ) (g : Tree) (p : Program) → AllByRecursion (λ w. w.fault ≡ None) (flat_map (clause_way n g) p)
clauses-none n g [] = tt
clauses-none n g (c ∷ p) = AllByRecursion-append (λ w. w.fault ≡ None) (clause_way n g c) (flat_map (clause_way n g) p) (way_if-none _ _ _) (clauses-none n g p)

ways_by-none : (p : Program) (n : ℕ) (g : Tree) (a : Option (Option Subst)) → AllByRecursion (λ w. w.fault ≡ None) (ways_by p n g a)
ways_by-none p n g None = clauses-none n g p
ways_by-none p n g (Some s) = way_if-none s [] 0

pub children-none : (p : Program) (s : State) → AllByRecursion IsWithout (children p s)
children-none p s = go (opened s.goals)
  where
    go : (ps : List Part) → AllByRecursion IsWithout (children_by p s ps)
    go [] = tt
    go (call g ∷ rest) = AllByRecursion-map (λ w. w.fault ≡ None) IsWithout (child s rest) (λ w h. h) (ways p s.next g) (ways_by-none p s.next g (builtin g))
    go (group cs ts ∷ rest) = tt

-- ---- outcomes

outcome-answer : (s : State) → IsWithout s → IsAnswer (outcome_of s)
outcome-answer s h = go s.fault h
  where
    go : (f : Option Fault) → f ≡ None → IsAnswer (outcome_by f s.tuple)
    go None e = tt
    go (Some e) q = cc

below-answers : (p : Program) (k : ℕ) (s : State) → IsWithout s → AllByRecursion IsAnswer (outcomes_below p k s)
below-answers p zero s h = go s.goals
  where
    go : (gs : List Part) → AllByRecursion IsAnswer (by_goals gs (outcome_of s ∷ []) [])
    go [] = (outcome-answer s h, tt)
    go (g ∷ gs) = tt
below-answers p (suc k) s h = go s.goals (AllByRecursion-flat_map IsWithout IsAnswer (outcomes_below p k) (below-answers p k) (children p s) (children-none p s))
  where
    go : (gs : List Part) → AllByRecursion IsAnswer (flat_map (outcomes_below p k) (children p s))
        → AllByRecursion IsAnswer (by_goals gs (outcome_of s ∷ []) (flat_map (outcomes_below p k) (children p s)))
    go [] ih = (outcome-answer s h, tt)
    go (g ∷ gs) ih = ih

done-answers : (ss : List State) → AllByRecursion IsWithout ss → AllByRecursion IsAnswer (done ss)
done-answers [] h = tt
done-answers (s ∷ ss) h = go s.goals (done-answers ss h.1)
  where
    go : (gs : List Part) → AllByRecursion IsAnswer (done ss) → AllByRecursion IsAnswer (by_goals gs (outcome_of s ∷ done ss) [])
    go [] ih = (outcome-answer s h.0, ih)
    go (g ∷ gs) ih = tt

open-without : (ss : List State) → AllByRecursion IsWithout ss → AllByRecursion IsWithout (open_states ss)
open-without [] h = tt
open-without (s ∷ ss) h = go s.goals (open-without ss h.1)
  where
    go : (gs : List Part) → AllByRecursion IsWithout (open_states ss) → AllByRecursion IsWithout (by_goals gs (open_states ss) (s ∷ ss))
    go [] ih = ih
    go (g ∷ gs) ih = h

meets-answers : (p : Program) (n : ℕ) (ss : List State) → AllByRecursion IsWithout ss → AllByRecursion IsAnswer (meets p n ss).outcomes
meets-answers p zero ss h = AllByRecursion-append IsAnswer (done ss) _ (done-answers ss h) (go (open_states ss))
  where
    go : (os : List State) → AllByRecursion IsAnswer (turn (λ t ts. record { outcomes = []; ended = false }) os).outcomes
    go [] = tt
    go (t ∷ ts) = tt
meets-answers p (suc n) ss h = AllByRecursion-append IsAnswer (done ss) _ (done-answers ss h) (go (open_states ss) (open-without ss h) (meets-answers p n))
  where
    go : (os : List State) → AllByRecursion IsWithout os → ((ts : List State) → AllByRecursion IsWithout ts → AllByRecursion IsAnswer (meets p n ts).outcomes)
        → AllByRecursion IsAnswer (turn (λ t ts. meets p n (children p t ++ ts)) os).outcomes
    go [] q ih = tt
    go (t ∷ ts) q ih = ih (children p t ++ ts) (AllByRecursion-append IsWithout (children p t) ts (children-none p t) q.1)

cut-none : (os : List Outcome) → AllByRecursion IsAnswer os → (cut os).fault ≡ None
cut-none [] h = refl
cut-none (answer ts ∷ os) h = cut-none os h.1
cut-none (fails_by e ∷ os) h = absurd h.0

some-none : (e : Fault) → Some e ≡ None → ⊥
some-none e q = cc

pub no_faults : NoFaultLaw
no_faults = record {
  answers = λ p s d h. cut-none (outcomes_below p (d - s.steps) s) (below-answers p (d - s.steps) s h);
  searches = λ p s n h. cut-none (meets p n (s ∷ [])).outcomes (meets-answers p n (s ∷ []) (h, tt));
  ends = λ line p q budget limit lines e h b.
      let m : ℕ = b.1.0 in
      some-none e ((b.1.1 m (omega arith)).1 ∙ cut-none (outcomes_below p (m - q.steps) q) (below-answers p (m - q.steps) q h));
}
