use Rattle.std.proofs.Common.{◌≡◌, ◌++◌, ◌&&◌, IsTrue, drop, map}
use Rattle.std.specs.List.{list_all}
use Rattle.ap_term.specs.GoalView.{part_of}
use Rattle.ap_patterns.specs.Given.{patterns}
use Rattle.ap_fixpoint.specs.Formed.{goals_formed}
use Rattle.ap_mel.specs.Mended.{mended_body, is_body_settled}
use Rattle.ap_mel.proofs.passes.mend_body.Given as goal

abbrev pub invariant-loop-part : goal.invariant-loop-part
invariant-loop-part l = record {
  whole : l.out ++ mended_body l.bare l.analysed (patterns l.table) l.state (map part_of (drop l.part-index l.parts))
      ≡ l.initial.out ++ mended_body l.bare l.analysed (patterns l.table) l.initial.state (map part_of l.parts);
  stays : (l.settled && is_body_settled l.bare l.analysed (patterns l.table) l.state (map part_of (drop l.part-index l.parts)))
      ≡ is_body_settled l.bare l.analysed (patterns l.table) l.initial.state (map part_of l.parts);
  formed : IsTrue (list_all goals_formed (map part_of (drop l.part-index l.parts)));
}
