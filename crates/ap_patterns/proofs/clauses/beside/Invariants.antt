use Rattle.std.proofs.Common.{◌≡◌}
use Rattle.ap_patterns.specs.Entering.{beside}
use Rattle.ap_patterns.proofs.clauses.beside.Given as goal

abbrev pub invariant-loop-i : goal.invariant-loop-i
invariant-loop-i l = l.vars ≡ beside l.n l.i l.s
