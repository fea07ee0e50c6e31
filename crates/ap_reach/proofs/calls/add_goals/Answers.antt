use Rattle.std.proofs.Common.{arith}
use Rattle.ap_term.specs.TermView.{tree_of}
use Rattle.ap_reach.specs.Reached.{IsNamed}
use Rattle.ap_reach.proofs.Naming.{named_more, turn, done}
use Rattle.ap_reach.proofs.calls.add_goals.Goals as goal

pub loop-goal-preserved : goal.loop-goal-preserved
loop-goal-preserved c =
    let p = c.args.program.now in
    turn (λ ks t. IsNamed p ks (tree_of t)) (λ ks ls t. named_more p ks ls (tree_of t)) c.args.goals.now c.loop-goal.goal-index c.goal-item.result c.args.calls.now c.loop-goal.calls c.add_goal.new.calls (omega arith) c.goal-item.is
    c.loop-goal.invariant.0 c.in_ok-add_goal.ensures.extends c.in_ok-add_goal.ensures.named c.loop-goal.invariant.1

pub returns-clause-named : goal.returns-clause-named
returns-clause-named c =
    let p = c.args.program.now in
    done (λ ks t. IsNamed p ks (tree_of t)) (λ ks ls t. named_more p ks ls (tree_of t)) c.args.goals.now c.loop-goal.goal-index c.loop-goal.calls (omega arith) c.loop-goal.invariant.1
