-- How large a clause is with what is lifted from it.
use Rattle.std.specs.Prelude.{◌≡◌, ℕ, ◌+◌, ◌-◌, ◌^◌, Bool, true, false, if◌then◌else◌, min, max, List, [], ◌∷◌, length, Option, Some, None}
use Rattle.ap_term.specs.Tree.{count_trees}
use Rattle.ap_term.specs.Goals.{Part, call, group, Clause}
use Rattle.ap_lifting.specs.declared.sizes.Sizes.{Sizes}
use Rattle.ap_lifting.specs.declared.sizes.Measure.{Measure}
use Rattle.ap_lifting.specs.Body.{Body, goal, conjunction, disjunction, parallel, conditional}
use Rattle.ap_lifting.specs.Rule.{Rule}
use Rattle.ap_lifting.specs.Lifted.{Lifted, stays}

-- how many goals a body has: each goal of a group is one, and the call of a lifted predicate is one
abbrev pub count_goals : List Part → ℕ
count_goals [] = 0
count_goals (call t ∷ ps) = 1 + count_goals ps
count_goals (group cs ts ∷ ps) = count_trees ts + count_goals ps

-- the goals of the largest group
abbrev pub largest_group : List Part → ℕ
largest_group [] = 0
largest_group (call t ∷ ps) = largest_group ps
largest_group (group cs ts ∷ ps) = max (count_trees ts) (largest_group ps)

abbrev pub most_goals : List Clause → ℕ
most_goals [] = 0
most_goals (c ∷ cs) = max (count_goals c.body) (most_goals cs)

abbrev pub largest_group_in : List Clause → ℕ
largest_group_in [] = 0
largest_group_in (c ∷ cs) = max (largest_group c.body) (largest_group_in cs)

-- the number, or the greatest of 64 bits where it is above that
abbrev pub held : ℕ → ℕ
held n = min n (2 ^ 64 - 1)

-- of a body that was lifted from the n-th lifted predicate on: how many predicates and clauses were lifted, the most
-- goals of a clause, the goals of the largest group
pub record AreSizesOf (n : ℕ) (x : Lifted) (s : Sizes) : Type 0 where
  pub predicates : s.predicates ≡ held (x.next - n)
  pub clauses : s.clauses ≡ held (length x.clauses)
  pub goals : s.goals ≡ held (max (count_goals x.parts) (most_goals x.clauses))
  pub group : s.group ≡ held (max (largest_group x.parts) (largest_group_in x.clauses))

-- ---- the same, read off a body: of the parts, then of what is lifted

abbrev pub one_goal : Measure
one_goal = record { predicates = 0; clauses = 0; goals = 1; group = 0; lifted_goals = 0; lifted_group = 0 }

abbrev pub one_after_other : Measure → Measure → Measure
one_after_other a b = record {
  predicates = a.predicates + b.predicates;
  clauses = a.clauses + b.clauses;
  goals = a.goals + b.goals;
  group = max a.group b.group;
  lifted_goals = max a.lifted_goals b.lifted_goals;
  lifted_group = max a.lifted_group b.lifted_group;
}

-- two bodies behind the call of one predicate
abbrev pub measured_either : Measure → Measure → Measure
measured_either a b = record {
  predicates = 1 + (a.predicates + b.predicates);
  clauses = 2 + (a.clauses + b.clauses);
  goals = 1;
  group = 0;
  lifted_goals = max (max a.goals b.goals) (max a.lifted_goals b.lifted_goals);
  lifted_group = max (max a.group b.group) (max a.lifted_group b.lifted_group);
}

abbrev pub measured_raised : Measure → Measure
measured_raised b = record {
  predicates = 1 + b.predicates;
  clauses = 1 + b.clauses;
  goals = 1;
  group = 0;
  lifted_goals = max b.goals b.lifted_goals;
  lifted_group = max b.group b.lifted_group;
}

abbrev pub measured_raised_unless : Bool → Measure → Measure
measured_raised_unless stays b = if stays then b else measured_raised b

abbrev pub measured_group : Measure → Measure → Measure
measured_group a b = record (one_after_other a b) { group = a.goals + b.goals }

abbrev pub measured : Body → Measure
measured (goal t) = one_goal
measured (conjunction a b) = one_after_other (measured a) (measured b)
measured (disjunction a b) = measured_either (measured a) (measured b)
measured (parallel a b) = measured_group (measured_raised_unless (stays false a) (measured a)) (measured_raised_unless (stays true b) (measured b))
measured (conditional cs b) = measured b

abbrev pub measured_operand : Bool → Body → Measure
measured_operand is_last b = measured_raised_unless (stays is_last b) (measured b)

abbrev pub held_measure : Measure → Measure
held_measure a = record {
  predicates = held a.predicates;
  clauses = held a.clauses;
  goals = held a.goals;
  group = held a.group;
  lifted_goals = held a.lifted_goals;
  lifted_group = held a.lifted_group;
}

-- how many predicates are lifted from a body
abbrev pub predicates : Body → ℕ
predicates b = (measured b).predicates

abbrev pub nothing : Measure
nothing = record { predicates = 0; clauses = 0; goals = 0; group = 0; lifted_goals = 0; lifted_group = 0 }

-- so many goals, called one after another
abbrev pub row : ℕ → Measure
row goals = record { predicates = 0; clauses = 0; goals = goals; group = 0; lifted_goals = 0; lifted_group = 0 }

-- a fact has no body
abbrev pub measured_if : Option Body → Measure
measured_if None = nothing
measured_if (Some b) = measured b

abbrev pub predicates_if : Option Body → ℕ
predicates_if b = (measured_if b).predicates

abbrev pub predicates_in : List Rule → ℕ
predicates_in [] = 0
predicates_in (r ∷ rs) = predicates_if r.body + predicates_in rs
