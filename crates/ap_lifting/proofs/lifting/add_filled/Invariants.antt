use Rattle.std.proofs.Common.{◌≡◌, ◌++◌}
use Rattle.ap_lifting.specs.Lifts.{values}
use Rattle.ap_lifting.proofs.lifting.add_filled.Given as goal

abbrev pub invariant-loop-place : goal.invariant-loop-place
invariant-loop-place l = l.out ≡ l.fn.out ++ values l.yielded
