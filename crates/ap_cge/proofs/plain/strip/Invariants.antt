use Rattle.std.proofs.Common.{◌≡◌, map, take}
use Rattle.ap_cge.specs.Stripped.{stripped_clause}
use Rattle.ap_cge.proofs.plain.strip.Given as goal

abbrev pub invariant-loop-clause : goal.invariant-loop-clause
invariant-loop-clause l = l.program ≡ map stripped_clause (take l.clause-index l.clause-items)
