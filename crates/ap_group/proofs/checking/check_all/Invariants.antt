use Rattle.ap_instr.specs.Steps.{steps_from}
use Rattle.ap_steps.specs.Moves.{held}
use Rattle.ap_group.specs.Gathers.{Passes}
use Rattle.ap_group.proofs.checking.check_all.Given as goal

abbrev pub invariant-loop-place : goal.invariant-loop-place
invariant-loop-place l = record { passes : Passes l.cells.cells (held l.x) (held l.y) (steps_from l.code l.at) (steps_from l.code l.place) }
