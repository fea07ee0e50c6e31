use Rattle.std.proofs.Common.{◌≡◌, length}
use Rattle.ap_reach.proofs.predicates.Predicates.called.Given as goal

abbrev pub invariant-loop-place : goal.invariant-loop-place
invariant-loop-place l = l.arity ≡ length l.args
