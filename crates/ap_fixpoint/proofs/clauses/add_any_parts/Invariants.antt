use Rattle.std.proofs.Common.{◌≡◌, ◌++◌, IsTrue, drop, map}
use Rattle.std.specs.List.{flat_map, list_all}
use Rattle.ap_term.specs.GoalView.{part_of}
use Rattle.ap_patterns.specs.Given.{patterns, given_by_any_part}
use Rattle.ap_fixpoint.specs.Uncovered.{uncovered}
use Rattle.ap_fixpoint.specs.Formed.{goals_formed}
use Rattle.ap_fixpoint.proofs.clauses.add_any_parts.Given as goal

abbrev pub invariant-loop-part : goal.invariant-loop-part
invariant-loop-part l = record {
  whole : l.given.items ++ uncovered (patterns l.table) (flat_map (given_by_any_part l.called) (map part_of (drop l.part-index l.parts))) ≡ l.initial.given.items ++ uncovered (patterns l.table) (flat_map (given_by_any_part l.called) (map part_of l.parts));
  formed : IsTrue (list_all goals_formed (map part_of (drop l.part-index l.parts)));
}
