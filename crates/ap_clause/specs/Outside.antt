-- Names that no goal and no head may have.
use Rattle.std.specs.Prelude.{ℕ, Bool, true, false, ◌&&◌, ◌||◌, ◌==◌, nat_le, nat_lt, is_some, Option, Some, None}
use Rattle.ap_term.specs.declared.fixed.TheConstants.{TRUE, FAIL, CALL, FIRST_REFUSED, COUNT}
use Rattle.ap_term.specs.Builtins.{relation_named}
use Rattle.ap_term.specs.Tree.{Tree, var, int, atom, node, count_trees}
use Rattle.ap_lifting.specs.Body.{Body, goal, conjunction, disjunction, parallel, conditional}
use Rattle.ap_clause.specs.Clause.{Halves}
use Rattle.ap_clause.specs.declared.source.Source.{Source}
use Rattle.ap_clause.specs.declared.source.Source.TheVariants as source

-- the fixed names from the first refused one on
abbrev pub is_refused : ℕ → Bool
is_refused a = nat_le FIRST_REFUSED a && nat_lt a COUNT

abbrev pub some_if : Bool → ℕ → Option ℕ
some_if true a = Some a
some_if false a = None

abbrev pub or_else : Option ℕ → Option ℕ → Option ℕ
or_else None b = b
or_else (Some a) b = Some a

-- a variable as a goal is a call of what it stands for
abbrev pub outside_goal : Tree → Option ℕ
outside_goal (var x) = Some CALL
outside_goal (int z) = None
outside_goal (atom a) = some_if (is_refused a) a
outside_goal (node a ts) = some_if (is_refused a) a

-- a built-in goal is no head either
abbrev pub outside_head : Tree → Option ℕ
outside_head (var x) = None
outside_head (int z) = None
outside_head (atom a) = some_if (is_refused a || (a == TRUE || a == FAIL)) a
outside_head (node a ts) = some_if (is_refused a || (count_trees ts == 2 && is_some (relation_named a))) a

-- the first from left to right; conditions are no goals
abbrev pub outside_body : Body → Option ℕ
outside_body (goal t) = outside_goal t
outside_body (conjunction a b) = or_else (outside_body a) (outside_body b)
outside_body (disjunction a b) = or_else (outside_body a) (outside_body b)
outside_body (parallel a b) = or_else (outside_body a) (outside_body b)
outside_body (conditional cs b) = outside_body b

abbrev pub outside_rest : Option Body → Option ℕ
outside_rest None = None
outside_rest (Some b) = outside_body b

-- head first; the head of a query is the project's own
abbrev pub first_outside : Source → Halves → Option ℕ
first_outside source.Program h = or_else (outside_head h.0) (outside_rest h.1)
first_outside source.Query h = outside_rest h.1
