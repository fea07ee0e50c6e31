-- The fault that the call of a goal meets: an arithmetic goal that of its left expression, else that of its right one
-- (ISO 13211-1, sections 8.6 and 8.7).
use Rattle.std.specs.Prelude.{Option, Some, None}
use Rattle.ap_term.specs.declared.faults.Fault.{Fault}
use Rattle.ap_term.specs.declared.builtins.Relation.{Relation}
use Rattle.ap_term.specs.declared.builtins.Relation.TheVariants.{Unify, NotUnify, Same, NotSame, Is, Compare}
use Rattle.ap_term.specs.Tree.{Tree, node, none, more}
use Rattle.ap_term.specs.Arithmetic.{fault_in}
use Rattle.ap_term.specs.Builtins.{relation_named}

-- the first of two faults
abbrev pub or_then : Option Fault → Option Fault → Option Fault
or_then None f = f
or_then (Some e) f = Some e

abbrev pub relation_fault : Option Relation → Tree → Tree → Option Fault
relation_fault None t u = None
relation_fault (Some Unify) t u = None
relation_fault (Some NotUnify) t u = None
relation_fault (Some Same) t u = None
relation_fault (Some NotSame) t u = None
relation_fault (Some Is) t u = fault_in u
relation_fault (Some (Compare o)) t u = or_then (fault_in t) (fault_in u)

-- the fault of a goal's call, if it meets one
abbrev pub fault_met : Tree → Option Fault
fault_met (node a (more t (more u none))) = relation_fault (relation_named a) t u
fault_met _ = None

-- The fault by which a goal's call ends a search. This is the switch: as long as it is None of every goal, a goal that
-- meets a fault fails; with `fault_met` in its place it ends the search.
abbrev pub fault_of : Tree → Option Fault
fault_of t = None
