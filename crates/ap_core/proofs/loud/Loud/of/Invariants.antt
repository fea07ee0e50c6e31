use Rattle.ap_core.specs.Passes.{AreLoud, unlisted}
use Rattle.ap_core.proofs.loud.Loud.of.Given as goal

abbrev pub invariant-loop-loud : goal.invariant-loop-loud
invariant-loop-loud l = AreLoud l.program l.loud

abbrev pub decreases-loop-loud : goal.decreases-loop-loud
decreases-loop-loud l = unlisted l.loud l.program
