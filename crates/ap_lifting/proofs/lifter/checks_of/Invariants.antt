use Rattle.std.proofs.Common.{◌≡◌, take}
use Rattle.ap_lifting.specs.Lifted.{checks_of}
use Rattle.ap_lifting.proofs.lifter.checks_of.Given as goal

abbrev pub invariant-loop-condition : goal.invariant-loop-condition
invariant-loop-condition l = l.checks ≡ checks_of (take l.condition-index l.conditions)
