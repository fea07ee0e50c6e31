use Rattle.std.proofs.Common.{◌≡◌, [], drop}
use Rattle.ap_certify.specs.Refused.{predicates_behind}
use Rattle.ap_certify.proofs.entered.predicates.Given as goal

abbrev pub invariant-loop-clause : goal.invariant-loop-clause
invariant-loop-clause l = predicates_behind l.found.items (drop l.clause-index l.clauses) ≡ predicates_behind [] l.clauses
