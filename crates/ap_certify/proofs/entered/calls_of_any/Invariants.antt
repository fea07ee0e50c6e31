use Rattle.std.proofs.Common.{◌≡◌, take, map}
use Rattle.ap_certify.specs.Refused.{call_of_any}
use Rattle.ap_certify.proofs.entered.calls_of_any.Given as goal

abbrev pub invariant-loop-predicate : goal.invariant-loop-predicate
invariant-loop-predicate l = l.calls.items ≡ map call_of_any (take l.predicate-index l.predicates)
