-- The state after a built-in goal succeeded.
use Rattle.std.specs.Prelude.{Option, Some, ◌==◌, if◌then◌else◌}
use Rattle.ap_term.specs.declared.builtins.Relation.{Relation}
use Rattle.ap_term.specs.declared.builtins.Relation.TheVariants.{Unify, Is, Compare}
use Rattle.ap_term.specs.declared.fixed.TheConstants.{FAIL}
use Rattle.ap_term.specs.Tree.{Tree, atom, node, none, more}
use Rattle.ap_term.specs.Builtins.{relation_named}
use Rattle.ap_sharing.specs.VarSet.{union}
use Rattle.ap_absunify.specs.TermSets.{var_set}
use Rattle.ap_absunify.specs.declared.states.State.{State}
use Rattle.ap_absunify.specs.declared.states.State.TheVariants.{Unreachable}
use Rattle.ap_absunify.specs.State.{ground}
use Rattle.ap_absunify.specs.AfterEqual.{after_equal}

-- the expression had a value, and the left side has become it
abbrev pub after_is : State → Tree → Tree → State
after_is s a b = ground (ground s (var_set b)) (var_set a)

abbrev pub after_relation : State → Option Relation → Tree → Tree → State
after_relation s (Some Unify) a b = after_equal s a b
after_relation s (Some Is) a b = after_is s a b
after_relation s (Some (Compare o)) a b = ground s (union (var_set a) (var_set b))
after_relation s _ a b = s

abbrev pub after_builtin : State → Tree → State
after_builtin s (atom a) = if a == FAIL then Unreachable else s
after_builtin s (node a (more t (more u none))) = after_relation s (relation_named a) t u
after_builtin s _ = s
