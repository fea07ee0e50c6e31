use Rattle.std.proofs.Common.{◌≡◌, ◌++◌, drop, map}
use Rattle.ap_patterns.specs.Entering.{own_sets, beside}
use Rattle.ap_patterns.proofs.clauses.sets_beside.Given as goal

abbrev pub invariant-loop-s : goal.invariant-loop-s
invariant-loop-s l = l.all.items ++ map (beside l.n l.k) (drop l.s-index l.places) ≡ own_sets l.n ++ map (beside l.n l.k) l.places
