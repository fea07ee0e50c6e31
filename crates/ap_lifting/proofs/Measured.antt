-- What is read off a body is what lifting gives.
use Rattle.std.proofs.Common.{◌≡◌, ℕ, ◌+◌, ◌<◌, Bool, true, false, max, List, [], ◌∷◌, ◌++◌, length, Option, Some, None, refl, ap, arith, length-append}
use Rattle.ap_term.specs.declared.clauses.Check.{Check}
use Rattle.ap_term.specs.Tree.{Trees, none, more, count_trees, append_trees}
use Rattle.ap_term.specs.Goals.{Part, call, group, Clause, plain_goals}
use Rattle.ap_lifting.specs.declared.sizes.Measure.{Measure}
use Rattle.ap_lifting.specs.Body.{Body, goal, conjunction, disjunction, parallel, conditional}
use Rattle.ap_lifting.specs.Lifted.{Lifted, in_turn, grouped, stays, number_inside, checks_of, either, raised_unless, lifted, lifted_if}
use Rattle.ap_lifting.specs.Sizes.{AreSizesOf, held_measure, count_goals, largest_group, most_goals, largest_group_in, one_after_other, measured_either, measured_raised_unless, measured_group, measured, measured_if}

pub count_trees-append : (ts us : Trees) → count_trees (append_trees ts us) ≡ count_trees ts + count_trees us
count_trees-append none us = omega arith
count_trees-append (more t ts) us = omega (arith, count_trees-append ts us)

count_trees-plain_goals : (ps : List Part) → count_trees (plain_goals ps) ≡ count_goals ps
count_trees-plain_goals [] = refl
count_trees-plain_goals (call t ∷ ps) = omega (arith, count_trees-plain_goals ps)
count_trees-plain_goals (group cs ts ∷ ps) = omega (arith, count_trees-append ts (plain_goals ps), count_trees-plain_goals ps)

count_goals-append : (ps qs : List Part) → count_goals (ps ++ qs) ≡ count_goals ps + count_goals qs
count_goals-append [] qs = omega arith
count_goals-append (call t ∷ ps) qs = omega (arith, count_goals-append ps qs)
count_goals-append (group cs ts ∷ ps) qs = omega (arith, count_goals-append ps qs)

largest_group-append : (ps qs : List Part) → largest_group (ps ++ qs) ≡ max (largest_group ps) (largest_group qs)
largest_group-append [] qs = omega arith
largest_group-append (call t ∷ ps) qs = largest_group-append ps qs
largest_group-append (group cs ts ∷ ps) qs = omega (arith, largest_group-append ps qs)

most_goals-append : (cs ds : List Clause) → most_goals (cs ++ ds) ≡ max (most_goals cs) (most_goals ds)
most_goals-append [] ds = omega arith
most_goals-append (c ∷ cs) ds = omega (arith, most_goals-append cs ds)

largest_group_in-append : (cs ds : List Clause) → largest_group_in (cs ++ ds) ≡ max (largest_group_in cs) (largest_group_in ds)
largest_group_in-append [] ds = omega arith
largest_group_in-append (c ∷ cs) ds = omega (arith, largest_group_in-append cs ds)

-- the measure of what lifting from n on gives
pub record Measures (n : ℕ) (x : Lifted) (m : Measure) : Type 0 where
  pub predicates : x.next ≡ n + m.predicates
  pub clauses : length x.clauses ≡ m.clauses
  pub goals : count_goals x.parts ≡ m.goals
  pub group : largest_group x.parts ≡ m.group
  pub lifted_goals : most_goals x.clauses ≡ m.lifted_goals
  pub lifted_group : largest_group_in x.clauses ≡ m.lifted_group

in_turn_measures : (n : ℕ) (x y : Lifted) (a b : Measure) → Measures n x a → Measures x.next y b → Measures n (in_turn x y) (one_after_other a b)
in_turn_measures n x y a b h k = record {
  predicates = omega arith;
  clauses = omega (arith, length-append x.clauses y.clauses);
  goals = omega (arith, count_goals-append x.parts y.parts);
  group = omega (arith, largest_group-append x.parts y.parts);
  lifted_goals = omega (arith, most_goals-append x.clauses y.clauses);
  lifted_group = omega (arith, largest_group_in-append x.clauses y.clauses);
}

group_measures : (n : ℕ) (x y : Lifted) (a b : Measure) (cs : List Check) → Measures n x a → Measures x.next y b → Measures n (grouped cs x y) (measured_group a b)
group_measures n x y a b cs h k =
    let both : count_trees (append_trees (plain_goals x.parts) (plain_goals y.parts)) ≡ a.goals + b.goals
    = omega (arith, count_trees-append (plain_goals x.parts) (plain_goals y.parts), count_trees-plain_goals x.parts, count_trees-plain_goals y.parts)
    in
    record {
      predicates = omega arith;
      clauses = omega (arith, length-append x.clauses y.clauses);
      goals = omega arith;
      group = omega arith;
      lifted_goals = omega (arith, most_goals-append x.clauses y.clauses);
      lifted_group = omega (arith, largest_group_in-append x.clauses y.clauses);
    }

module _ (names : ℕ → ℕ) (vars line : ℕ) where
  either_measures : (n : ℕ) (x y : Lifted) (a b : Measure) → Measures (n + 1) x a → Measures x.next y b → Measures n (either names vars line n x y) (measured_either a b)
  either_measures n x y a b h k = record {
    predicates = omega arith;
    clauses = omega (arith, length-append x.clauses y.clauses);
    goals = refl;
    group = refl;
    lifted_goals = omega (arith, most_goals-append x.clauses y.clauses);
    lifted_group = omega (arith, largest_group_in-append x.clauses y.clauses);
  }

  unless_measures : (stays : Bool) (n : ℕ) (x : Lifted) (a : Measure) → Measures (number_inside stays n) x a → Measures n (raised_unless names vars line stays n x) (measured_raised_unless stays a)
  unless_measures true n x a h = h
  unless_measures false n x a h = record {
    predicates = omega arith;
    clauses = omega arith;
    goals = refl;
    group = refl;
    lifted_goals = omega arith;
    lifted_group = omega arith;
  }

  pub lifted_measures : (b : Body) (cs : List Check) (n : ℕ) → Measures n (lifted names vars line b cs n) (measured b)
  lifted_measures (goal t) cs n = record {
    predicates = omega arith;
    clauses = refl;
    goals = refl;
    group = refl;
    lifted_goals = refl;
    lifted_group = refl;
  }
  lifted_measures (conjunction a b) cs n =
      let x = lifted names vars line a [] n in
      in_turn_measures n x (lifted names vars line b [] x.next) (measured a) (measured b) (lifted_measures a [] n) (lifted_measures b [] x.next)
  lifted_measures (disjunction a b) cs n =
      let x = lifted names vars line a [] (n + 1) in
      either_measures n x (lifted names vars line b [] x.next) (measured a) (measured b) (lifted_measures a [] (n + 1)) (lifted_measures b [] x.next)
  lifted_measures (parallel a b) cs n =
      let x = raised_unless names vars line (stays false a) n (lifted names vars line a [] (number_inside (stays false a) n)) in
      let y = lifted names vars line b [] (number_inside (stays true b) x.next) in
      group_measures n x (raised_unless names vars line (stays true b) x.next y) (measured_raised_unless (stays false a) (measured a)) (measured_raised_unless (stays true b) (measured b)) cs
      (unless_measures (stays false a) n (lifted names vars line a [] (number_inside (stays false a) n)) (measured a) (lifted_measures a [] (number_inside (stays false a) n)))
      (unless_measures (stays true b) x.next y (measured b) (lifted_measures b [] (number_inside (stays true b) x.next)))
  lifted_measures (conditional ds b) cs n = lifted_measures b (checks_of ds) n

pub sizes_measured : (n : ℕ) (x : Lifted) (m h : Measure) (most largest : ℕ) → Measures n x m → h ≡ held_measure m → most ≡ max h.goals h.lifted_goals → largest ≡ max h.group h.lifted_group
    → AreSizesOf n x (record { predicates = h.predicates; clauses = h.clauses; goals = most; group = largest })
sizes_measured n x m h most largest k e p q = record {
  predicates = omega (arith, k.predicates, ap (λ a. a.predicates) e);
  clauses = omega (arith, k.clauses, ap (λ a. a.clauses) e);
  goals = omega (arith, k.goals, k.lifted_goals, p, ap (λ a. a.goals) e, ap (λ a. a.lifted_goals) e);
  group = omega (arith, k.group, k.lifted_group, q, ap (λ a. a.group) e, ap (λ a. a.lifted_group) e);
}

some_goals : (b : Body) → 0 < (measured b).goals
some_goals (goal t) = omega arith
some_goals (conjunction a b) = omega (arith, some_goals a)
some_goals (disjunction a b) = omega arith
some_goals (parallel a b) = first (stays false a) (some_goals a)
  where
    first : (s : Bool) → 0 < (measured a).goals → 0 < (measured_raised_unless s (measured a)).goals + (measured_raised_unless (stays true b) (measured b)).goals
    first true h = omega (arith, h)
    first false h = omega arith
some_goals (conditional cs b) = some_goals b

-- a lifted body has a goal
pub some_lifted : (names : ℕ → ℕ) (vars line : ℕ) (b : Body) (cs : List Check) (n : ℕ) → 0 < count_trees (plain_goals (lifted names vars line b cs n).parts)
some_lifted names vars line b cs n =
    omega (arith, count_trees-plain_goals (lifted names vars line b cs n).parts, (lifted_measures names vars line b cs n).goals, some_goals b)

pub measures_if : (names : ℕ → ℕ) (vars line : ℕ) (b : Option Body) (n : ℕ) → Measures n (lifted_if names vars line b n) (measured_if b)
measures_if names vars line None n = record {
  predicates = omega arith;
  clauses = refl;
  goals = refl;
  group = refl;
  lifted_goals = refl;
  lifted_group = refl;
}
measures_if names vars line (Some b) n = lifted_measures names vars line b [] n
