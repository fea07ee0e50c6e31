use Rattle.std.proofs.Common.{◌≡◌, take}
use Rattle.ap_machine.proofs.forks.places_of.Given as goal

abbrev pub invariant-loop-register : goal.invariant-loop-register
invariant-loop-register l = l.places.items ≡ take l.register-index l.registers
