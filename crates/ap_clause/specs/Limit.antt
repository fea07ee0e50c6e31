-- How large a clause may be with what is lifted from it.
use Rattle.std.specs.Prelude.{ℕ, ◌+◌, Bool, true, false, ◌&&◌, not, nat_le, nat_lt, max, Option, Some, None, length}
use Rattle.ap_term.specs.Tree.{Tree, Trees, var, int, atom, node, none, more, count_trees}
use Rattle.ap_lifting.specs.Rule.{Rule}
use Rattle.ap_lifting.specs.Lifted.{Lifted, lifted_rule}
use Rattle.ap_lifting.specs.Sizes.{count_goals, largest_group, most_goals, largest_group_in}
use Rattle.ap_clause.specs.declared.limit.TheConstants.{MAX_VARIABLES, MAX_ARITY, MAX_GOALS, MAX_GROUP, MAX_CLAUSES}
use Rattle.ap_clause.specs.declared.refusal.What.{What}
use Rattle.ap_clause.specs.declared.refusal.What.TheVariants as what
use Rattle.ap_clause.specs.declared.source.Source.{Source}
use Rattle.ap_clause.specs.declared.source.Source.TheVariants as source

abbrev mutual
  -- whether no compound in a term has more than MAX_ARITY arguments
  pub is_narrow : Tree → Bool
  is_narrow (var x) = true
  is_narrow (int z) = true
  is_narrow (atom a) = true
  is_narrow (node a ts) = nat_le (count_trees ts) MAX_ARITY && are_narrow ts

  pub are_narrow : Trees → Bool
  are_narrow none = true
  are_narrow (more t ts) = is_narrow t && are_narrow ts

-- the clause of `?-` counts for none
abbrev pub own_clauses : Source → ℕ
own_clauses source.Program = 1
own_clauses source.Query = 0

-- what lifting makes of a clause, whatever the lifted predicates are called
abbrev pub outcome : Rule → Lifted
outcome r = lifted_rule (λ n. 0) r 0

abbrev pub clauses_after : Source → Rule → ℕ → ℕ
clauses_after source r before = before + (own_clauses source + length (outcome r).clauses)

abbrev pub over : Bool → What → Option What → Option What
over true w rest = Some w
over false w rest = rest

-- the first of the limits on goals, a group's goals, and clauses
abbrev pub passed_sizes : ℕ → ℕ → ℕ → Option What
passed_sizes goals group clauses = over (nat_lt MAX_GOALS goals) what.Goals (over (nat_lt MAX_GROUP group) what.Group (over (nat_lt MAX_CLAUSES clauses) what.Clauses None))

-- the same of what lifting makes of a clause
abbrev pub passed_lifted : Source → Rule → ℕ → Option What
passed_lifted source r before =
    let x = outcome r in
    passed_sizes (max (count_goals x.parts) (most_goals x.clauses)) (max (largest_group x.parts) (largest_group_in x.clauses)) (clauses_after source r before)

-- the first of all limits that a clause and its term pass, behind so many clauses
abbrev pub passed : Source → Tree → Rule → ℕ → Option What
passed source t r before = over (nat_lt MAX_VARIABLES r.vars) what.Variables (over (not (is_narrow t)) what.Arity (passed_lifted source r before))
