use Rattle.std.proofs.Common.{◌≡◌, ◌++◌, IsTrue, drop, map}
use Rattle.std.specs.List.{list_all}
use Rattle.ap_term.specs.GoalView.{part_of}
use Rattle.ap_patterns.specs.Given.{patterns}
use Rattle.ap_fixpoint.specs.Formed.{goals_formed}
use Rattle.ap_udg.specs.Completed.{completed_body}
use Rattle.ap_udg.proofs.completions.completed.Given as goal

abbrev pub invariant-loop-part : goal.invariant-loop-part
invariant-loop-part l = record {
  whole : l.body ++ completed_body l.analysed (patterns l.table) l.state (map part_of (drop l.part-index l.parts))
      ≡ completed_body l.analysed (patterns l.table) l.initial.state (map part_of l.parts);
  formed : IsTrue (list_all goals_formed (map part_of (drop l.part-index l.parts)));
}
