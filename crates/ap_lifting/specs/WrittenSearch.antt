-- Sequential search of a program as it is written: the leftmost goal first, clauses in textual order, and of a
-- disjunction the first branch's answers before the second's (ISO 13211-1, sections 7.7 and 7.8.6, without the cut).
-- `A & B` and `C => B` are searched as `A, B` and `B`; checks are never looked at. Calls are counted: a goal's call is
-- one, and so is the choice of a disjunction, and the entry of an operand of & that is no goal.
use Rattle.std.specs.Prelude.{ℕ, zero, suc, ◌+◌, Bool, true, false, if◌then◌else◌, List, [], ◌∷◌, ◌++◌, map, Option, Some, None}
use Rattle.std.specs.List.{flat_map}
use Rattle.ap_term.specs.Tree.{Tree, Trees, none}
use Rattle.ap_term.specs.Substitution.{instance, instance_all, Subst, value, shift}
use Rattle.ap_term.specs.Unification.{mgu}
use Rattle.ap_term.specs.Builtins.{builtin}
use Rattle.ap_term.specs.Search.{variables}
use Rattle.ap_laws.specs.Plain.{state}
use Rattle.ap_laws.specs.Trace.{Action, called, cut, answered}
use Rattle.ap_lifting.specs.Body.{Body, goal, conjunction, disjunction, parallel, conditional}
use Rattle.ap_lifting.specs.Rule.{Rule}
use Rattle.ap_lifting.specs.Lifted.{stays}

-- what takes one call: a goal, the choice of a disjunction, the entry of an operand of & that is no goal
pub data Item : Type 0 where
  calling : Tree → Item
  choosing : Body → Body → Item
  entering : Body → Item

abbrev pub operand_items : Bool → Body → List Item → List Item
operand_items stays b is = if stays then is else entering b ∷ []

-- a body, one after another
abbrev pub items : Body → List Item
items (goal t) = calling t ∷ []
items (conjunction a b) = items a ++ items b
items (disjunction a b) = choosing a b ∷ []
items (parallel a b) = operand_items (stays false a) a (items a) ++ operand_items (stays true b) b (items b)
items (conditional cs b) = items b

-- of a fact nothing
abbrev pub items_if : Option Body → List Item
items_if None = []
items_if (Some b) = items b

abbrev pub instance_body : (ℕ → Tree) → Body → Body
instance_body f (goal t) = goal (instance f t)
instance_body f (conjunction a b) = conjunction (instance_body f a) (instance_body f b)
instance_body f (disjunction a b) = disjunction (instance_body f a) (instance_body f b)
instance_body f (parallel a b) = parallel (instance_body f a) (instance_body f b)
instance_body f (conditional cs b) = conditional cs (instance_body f b)

abbrev pub instance_item : (ℕ → Tree) → Item → Item
instance_item f (calling t) = calling (instance f t)
instance_item f (choosing a b) = choosing (instance_body f a) (instance_body f b)
instance_item f (entering b) = entering (instance_body f b)

-- what is left to do, the instance of the query's variables, the first unused variable, the calls made on the way
pub data Written : Type 0 where
  written : List Item → Trees → ℕ → ℕ → Written

-- what a way on binds, what comes in the goal's place, how many variables it takes
pub data WrittenWay : Type 0 where
  way : Subst → List Item → ℕ → WrittenWay

abbrev pub written_way_if : Option Subst → List Item → ℕ → List WrittenWay
written_way_if None is takes = []
written_way_if (Some s) is takes = way s is takes ∷ []

-- the way by one clause, whose variables from 1 on become those behind `next`
abbrev pub rule_way : ℕ → Tree → Rule → List WrittenWay
rule_way next g r = written_way_if (mgu g (instance (shift next) r.head)) (map (instance_item (shift next)) (items_if r.body)) (r.vars + 1)

abbrev pub written_ways_by : List Rule → ℕ → Tree → Option (Option Subst) → List WrittenWay
written_ways_by rs next g None = flat_map (rule_way next g) rs
written_ways_by rs next g (Some answer) = written_way_if answer [] 0

abbrev pub written_child : List Item → Trees → ℕ → ℕ → WrittenWay → Written
written_child is T n k (way s body takes) = written (map (instance_item (value s)) (body ++ is)) (instance_all (value s) T) (n + takes) (k + 1)

-- the states that the first item leads to
abbrev pub written_children : List Rule → Item → List Item → Trees → ℕ → ℕ → List Written
written_children rs (calling g) is T n k = map (written_child is T n k) (written_ways_by rs n g (builtin g))
written_children rs (choosing a b) is T n k = written (items a ++ is) T n (k + 1) ∷ written (items b ++ is) T n (k + 1) ∷ []
written_children rs (entering b) is T n k = written (items b ++ is) T n (k + 1) ∷ []

-- the search at most so many calls below a state
unfoldable pub written_trace : List Rule → ℕ → Written → List Action
written_trace rs r (written [] T n k) = answered (state none T n k) r ∷ []
written_trace rs zero (written (i ∷ is) T n k) = cut ∷ []
written_trace rs (suc r) (written (i ∷ is) T n k) = called ∷ flat_map (λ s. written_trace rs r s) (written_children rs i is T n k)

-- the state in which a query begins
abbrev pub written_start : Rule → Written
written_start q = written (items_if q.body) (variables q.vars) (q.vars + 1) 0
