use Rattle.ap_patterns.specs.Given.{patterns}
use Rattle.ap_fixpoint.proofs.Fixing.{IsGoing}
use Rattle.ap_fixpoint.proofs.Ending.{left_to_go}
use Rattle.ap_fixpoint.proofs.analysis.analyse_program.Given as goal

abbrev pub invariant-loop-given : goal.invariant-loop-given
invariant-loop-given l = IsGoing l.entries l.program (patterns l.table) l.given.items

abbrev pub decreases-loop-given : goal.decreases-loop-given
decreases-loop-given l = left_to_go l.entries l.program (patterns l.table)
