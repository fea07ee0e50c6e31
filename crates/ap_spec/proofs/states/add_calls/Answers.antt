use Rattle.ap_spec.proofs.GoalLists.{calls-turn}
use Rattle.ap_spec.proofs.states.add_calls.Goals as goal

pub loop-t-preserved : goal.loop-t-preserved
loop-t-preserved g c =
    calls-turn (g.B.Bindings.term_at c.args.bindings.now) _ _ _ _ _ _ _ c.loop-t-test.true c.t-item.is c.in_ok-instance.ensures c.in_ok-push.ensures c.loop-t.invariant
