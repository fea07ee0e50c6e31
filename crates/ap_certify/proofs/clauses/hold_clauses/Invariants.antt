use Rattle.std.proofs.Common.{take}
use Rattle.std.specs.List.{All, flat_map}
use Rattle.ap_patterns.specs.Given.{patterns, given_by_clause}
use Rattle.ap_patterns.specs.Covered.{IsHeld}
use Rattle.ap_certify.specs.GroupsGiven.{IsClauseGiven}
use Rattle.ap_certify.proofs.clauses.hold_clauses.Given as goal

abbrev pub invariant-loop-i : goal.invariant-loop-i
invariant-loop-i l = record {
  held : All (IsHeld (patterns l.table)) (flat_map (given_by_clause (patterns l.table)) (take l.i l.clauses));
  given : All (IsClauseGiven (patterns l.table)) (take l.i l.clauses);
}
