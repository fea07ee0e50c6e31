use Rattle.std.proofs.Common.{◌+◌, ◌*◌}
use Rattle.ap_arith.proofs.evaluation.+nested.Given as goal

abbrev pub decreases-operand : goal.decreases-operand
decreases-operand l = 2 * l.levels

abbrev pub decreases-operation : goal.decreases-operation
decreases-operation l = 2 * l.levels + 1
