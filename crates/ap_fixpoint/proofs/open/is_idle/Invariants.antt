use Rattle.std.proofs.Common.{◌≡◌, [], IsTrue, drop, map}
use Rattle.std.specs.List.{list_all}
use Rattle.ap_term.specs.TermView.{tree_of}
use Rattle.ap_term.specs.GoalView.{part_of}
use Rattle.ap_absunify.specs.declared.states.State.{State}
use Rattle.ap_patterns.specs.Given.{patterns}
use Rattle.ap_fixpoint.specs.Formed.{goals_formed}
use Rattle.ap_fixpoint.specs.Uncovered.{uncovered, given_on}
use Rattle.ap_fixpoint.proofs.open.is_idle.Given as goal

abbrev pub invariant-loop-part : goal.invariant-loop-part
invariant-loop-part l = record {
  whole : ((s : State) → uncovered (patterns l.table) (given_on (patterns l.table) (tree_of l.head) s (map part_of (drop l.part-index l.parts))) ≡ [])
      → (s : State) → uncovered (patterns l.table) (given_on (patterns l.table) (tree_of l.head) s (map part_of l.parts)) ≡ [];
  formed : IsTrue (list_all goals_formed (map part_of (drop l.part-index l.parts)));
}
