use Rattle.std.proofs.Common.{length}
use Rattle.ap_steps.specs.Moves.{held}
use Rattle.ap_standing.specs.Machine.{places_from}
use Rattle.ap_control.specs.Heads.{PassesOver}
use Rattle.ap_control.proofs.choosing.left_from.Given as goal

abbrev pub decreases-loop-rest : goal.decreases-loop-rest
decreases-loop-rest l = length (places_from l.sound l.rest)

abbrev pub invariant-loop-rest : goal.invariant-loop-rest
invariant-loop-rest l = PassesOver l.sound l.cells.cells (held l.x) (places_from l.sound l.fn.from) (places_from l.sound l.rest)
