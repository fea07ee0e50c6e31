use Rattle.std.proofs.Common.{◌≡◌, ◌++◌, length}
use Rattle.ap_reader.specs.Leaves.{texts}
use Rattle.ap_reader.proofs.written.own_names.Given as goal

abbrev pub invariant-loop-left : goal.invariant-loop-left
invariant-loop-left l = l.out.items ++ texts l.left ≡ texts l.names

abbrev pub decreases-loop-left : goal.decreases-loop-left
decreases-loop-left l = length l.left
