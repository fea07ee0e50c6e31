use Rattle.std.proofs.Common.{◌≡◌, ◌+◌, drop}
use Rattle.ap_sharing.specs.VarSet.{union}
use Rattle.ap_patterns.specs.Places.{places}
use Rattle.ap_patterns.proofs.places.places.Given as goal

abbrev pub invariant-loop-i : goal.invariant-loop-i
invariant-loop-i l = union l.found (places (l.i + 1) l.s (drop l.i l.sets)) ≡ union l.initial.found (places 1 l.s l.sets)
