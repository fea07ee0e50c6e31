use Rattle.std.proofs.Common.{◌≡◌, ◌+◌, drop}
use Rattle.ap_term.specs.TermView.{trees_of}
use Rattle.ap_sharing.specs.VarSet.{union}
use Rattle.ap_patterns.specs.Places.{free_places}
use Rattle.ap_patterns.proofs.places.free_places.Given as goal

abbrev pub invariant-loop-i : goal.invariant-loop-i
invariant-loop-i l = union l.found (free_places (l.i + 1) l.free (trees_of (drop l.i l.args))) ≡ union l.initial.found (free_places 1 l.free (trees_of l.args))
