use Rattle.ap_spec.specs.Pairs.{pair_of}
use Rattle.ap_spec.proofs.Eliminations.{resolved-turn, resolved-done}
use Rattle.ap_spec.proofs.unification.resolved.Goals as goal

pub loop-last-preserved-in_ok-bind : goal.loop-last-preserved-in_ok-bind
loop-last-preserved-in_ok-bind c =
    resolved-turn _ _ (pair_of c.in-Some.last) _ _ _ _ c.in-Some.ensures c.in_ok-term.ensures c.in_ok-bind.ensures c.loop-last.invariant

pub loop-last-preserved : goal.loop-last-preserved
loop-last-preserved c =
    resolved-turn _ _ (pair_of c.in-Some.last) _ _ _ _ c.in-Some.ensures c.in_ok-term.ensures c.in_ok-bind.ensures c.loop-last.invariant

pub returns : goal.returns
returns c = resolved-done _ _ _ c.in_default.ensures c.loop-last.invariant
