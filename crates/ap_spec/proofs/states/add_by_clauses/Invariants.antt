use Rattle.std.proofs.Common.{◌≡◌, ◌++◌, map, take}
use Rattle.std.specs.List.{flat_map}
use Rattle.ap_term.specs.TermView.{tree_of}
use Rattle.ap_term.specs.Search.{child, clause_way}
use Rattle.ap_spec.specs.States.{state_of, behind_of}
use Rattle.ap_spec.proofs.states.add_by_clauses.Given as goal

abbrev pub invariant-loop-clause : goal.invariant-loop-clause
invariant-loop-clause l =
    l.out ≡ l.initial.out ++ map (child (state_of l.s) (behind_of l.rest)) (flat_map (clause_way l.s.next (tree_of l.goal)) (take l.clause-index l.clauses))
