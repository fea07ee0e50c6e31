-- What lifting keeps.
use Rattle.std.specs.Prelude.{◌≡◌, ℕ, ◌+◌, ◌-◌, ◌<◌, ◌≤◌, nat_eq, nat_lt, Bool, false, if◌then◌else◌, List, [], ◌∷◌, ◌++◌, map, Option, Some, None}
use Rattle.std.specs.List.{AllZip, AllByRecursion}
use Rattle.ap_term.specs.declared.fixed.TheConstants.{COUNT}
use Rattle.ap_term.specs.Tree.{Tree, Trees, var, int, atom, node, more, append_trees}
use Rattle.ap_term.specs.Substitution.{instance, instance_all}
use Rattle.ap_term.specs.Goals.{Part, Program, Query, joined, plain_goals}
use Rattle.ap_term.specs.WellFormed.{IsProgram}
use Rattle.ap_term.specs.Search.{start, outcomes_to_depth, meets}
use Rattle.ap_term.specs.UpToNames.{SameUpToNames}
use Rattle.ap_laws.specs.Plain.{Plain, state, outcome, plain_of, plain_ways, plain_children, IsPlainBelow, SamePlain}
use Rattle.ap_laws.specs.Trace.{trace, answers_in, found_upto, SameAction}
use Rattle.ap_laws.specs.Laws.{SameOutcome, SameFound}
use Rattle.ap_lifting.specs.Body.{Body, goal, conjunction, disjunction, parallel, conditional}
use Rattle.ap_lifting.specs.Rule.{Rule, IsRule}
use Rattle.ap_lifting.specs.Lifted.{lifted_goal, lifted_clause, clause_of, lifted_rule, lifted_program}
use Rattle.ap_lifting.specs.Sizes.{predicates_in}
use Rattle.ap_lifting.specs.WrittenSearch.{written_trace, written_start}

-- whether a goal or a head has the name
abbrev pub is_named : ℕ → Tree → Bool
is_named a (var x) = false
is_named a (int z) = false
is_named a (atom b) = nat_eq b a
is_named a (node b ts) = nat_eq b a

-- the clauses of a program whose heads have the name
abbrev pub clauses_named : ℕ → Program → Program
clauses_named a [] = []
clauses_named a (c ∷ cs) = if is_named a c.head then c ∷ clauses_named a cs else clauses_named a cs

-- no goal of the body has the name
abbrev pub Avoids : ℕ → Body → Type 0
Avoids a (goal t) = is_named a t ≡ false
Avoids a (conjunction b c) = Avoids a b × Avoids a c
Avoids a (disjunction b c) = Avoids a b × Avoids a c
Avoids a (parallel b c) = Avoids a b × Avoids a c
Avoids a (conditional cs b) = Avoids a b

-- a fact has no goal
abbrev pub AvoidsIf : ℕ → Option Body → Type 0
AvoidsIf a None = Unit {0}
AvoidsIf a (Some b) = Avoids a b

-- the first `count` names differ from one another, from the fixed ones, and from those of heads and goals
pub record AreFresh (names : ℕ → ℕ) (count : ℕ) (rs : List Rule) : Type 0 where
  pub fixed : (i : ℕ) → i < count → COUNT ≤ names i
  pub apart : (i j : ℕ) → i < count → j < count → names i ≡ names j → i ≡ j
  pub heads : (i : ℕ) → i < count → AllByRecursion (λ r. is_named (names i) r.head ≡ false) rs
  pub goals : (i : ℕ) → i < count → AllByRecursion (λ r. AvoidsIf (names i) r.body) rs

-- a state whose first goal was replaced by a body, after one call
abbrev pub entered : ℕ → (ℕ → Tree) → Trees → Trees → ℕ → ℕ → List Part → Plain
entered vars f G T n k ps = state (append_trees (instance_all f (plain_goals ps)) G) T (n + (vars + 1)) (k + 1)

-- Calling a lifted predicate costs one call and leads, up to the names of variables, to the bodies that were lifted, in
-- their order, each in the goal's place with what stands in the place of the clause's variables; nothing is bound.
abbrev pub LiftedCallLaw : Type 0
LiftedCallLaw =
    (p : Program) → IsProgram p → (names : ℕ → ℕ) (vars line i : ℕ) (bodies : List (List Part)) → COUNT ≤ names i → clauses_named (names i) p ≡ map (lifted_clause names vars line i) bodies
    → (f : ℕ → Tree) (G T : Trees) (n k : ℕ) → IsPlainBelow (state (more (instance f (lifted_goal names vars line i)) G) T n k)
    → AllZip SamePlain (plain_children (plain_ways p) (state (more (instance f (lifted_goal names vars line i)) G) T n k)) (map (entered vars f G T n k) bodies)

-- the names of a program's lifted predicates, of which there are so many, and then those of a query's
abbrev pub supply : ℕ → (ℕ → ℕ) → (ℕ → ℕ) → ℕ → ℕ
supply n names own i = if nat_lt i n then names i else own (i - n)

-- The search of a lifted program with a query behind it is that of the rules as they are written: the same calls, the
-- same stops at each depth, and the same answers up to the names of variables, in the same order, each with the same
-- number of calls on its way. A call of a lifted predicate is the one call that `written_trace` counts for the choice of
-- a disjunction, or for the entry of an operand of &. So the answers to each depth are the same, and so is what each
-- budget finds.
pub record KeepsMeaning (rs : List Rule) (q : Rule) (lifted : Program) (query : Query) : Type 0 where
  pub program : IsProgram (joined lifted query)
  pub traces : (r : ℕ) → AllZip SameAction (written_trace rs r (written_start q)) (trace (plain_ways (joined lifted query)) r (plain_of (start query)))
  pub answers : (d : ℕ) → AllZip SameOutcome (map outcome (answers_in (written_trace rs d (written_start q)))) (outcomes_to_depth (joined lifted query) (start query) d)
  pub budgets : (n d : ℕ) → n ≤ d → SameFound (found_upto n (written_trace rs d (written_start q))) (meets (joined lifted query) n (start query ∷ []))

-- lifting by fresh names keeps the meaning of a program `ps` and a query q
abbrev pub MeaningLaw : Type 0
MeaningLaw =
    (ps : List Rule) (q : Rule) (names own : ℕ → ℕ) (count : ℕ) (query : Query) → AllByRecursion IsRule (ps ++ q ∷ []) → AreFresh (supply (predicates_in ps) names own) count (ps ++ q ∷ [])
    → predicates_in (ps ++ q ∷ []) ≤ count → query.question ≡ clause_of q (lifted_rule own q 0).parts → query.lifted ≡ (lifted_rule own q 0).clauses
    → KeepsMeaning (ps ++ q ∷ []) q (lifted_program names ps) query
