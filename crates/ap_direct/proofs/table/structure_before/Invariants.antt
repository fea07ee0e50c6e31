use Rattle.std.proofs.Common.{◌≤◌}
use Rattle.ap_direct.proofs.table.structure_before.Given as goal

abbrev pub invariant-arguments : goal.invariant-arguments
invariant-arguments l = l.place ≤ l.at

abbrev pub decreases-arguments : goal.decreases-arguments
decreases-arguments l = l.place
