use Rattle.ap_patterns.specs.Given.{patterns}
use Rattle.ap_fixpoint.specs.Fix.{IsFix}
use Rattle.ap_mel.specs.Made.{Passes}
use Rattle.ap_mel.proofs.Ending.{weight}
use Rattle.ap_mel.proofs.annotations.pass_on.Given as goal

abbrev pub invariant-loop-table : goal.invariant-loop-table
invariant-loop-table l = record {
  passes : Passes l.kind l.entries l.program l.fn.grouped l.current;
  table : IsFix l.entries l.current (patterns l.table);
}

abbrev pub decreases-loop-table : goal.decreases-loop-table
decreases-loop-table l = weight l.current
