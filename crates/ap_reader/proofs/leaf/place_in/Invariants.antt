use Rattle.std.proofs.Common.{◌≡◌, ◌+◌, length}
use Rattle.ap_reader.specs.Written.{place_in}
use Rattle.ap_reader.specs.Leaves.{texts}
use Rattle.ap_reader.proofs.leaf.place_in.Given as goal

abbrev pub invariant-loop-left : goal.invariant-loop-left
invariant-loop-left l = (place_in l.at (texts l.left) l.name ≡ place_in 1 (texts l.names) l.name) × (l.at + length l.left ≡ 1 + length l.names)

abbrev pub decreases-loop-left : goal.decreases-loop-left
decreases-loop-left l = length l.left
