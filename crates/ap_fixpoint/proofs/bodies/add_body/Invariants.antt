use Rattle.std.proofs.Common.{◌≡◌, ◌++◌, IsTrue, drop, map}
use Rattle.std.specs.List.{list_all}
use Rattle.ap_term.specs.GoalView.{part_of}
use Rattle.ap_patterns.specs.Given.{patterns, given_by_body, after_body}
use Rattle.ap_fixpoint.specs.Formed.{goals_formed}
use Rattle.ap_fixpoint.specs.Uncovered.{uncovered}
use Rattle.ap_fixpoint.proofs.bodies.add_body.Given as goal

abbrev pub invariant-loop-part : goal.invariant-loop-part
invariant-loop-part l = record {
  whole : l.given.items ++ uncovered (patterns l.table) (given_by_body (patterns l.table) l.state (map part_of (drop l.part-index l.parts))) ≡ l.initial.given.items ++ uncovered (patterns l.table) (given_by_body (patterns l.table) l.initial.state (map part_of l.parts));
  after : after_body (patterns l.table) l.state (map part_of (drop l.part-index l.parts)) ≡ after_body (patterns l.table) l.initial.state (map part_of l.parts);
  formed : IsTrue (list_all goals_formed (map part_of (drop l.part-index l.parts)));
}
