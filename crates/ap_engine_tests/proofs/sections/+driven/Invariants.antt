use Rattle.ap_section.specs.Ready.{IsReady}
use Rattle.ap_engine_tests.proofs.sections.+driven.Given as goal

abbrev pub decreases-driven : goal.decreases-driven
decreases-driven l = l.depth

abbrev pub invariant-moves : goal.invariant-moves
invariant-moves l = IsReady l.sound l.section
