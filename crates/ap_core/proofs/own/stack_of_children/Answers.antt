use Rattle.ap_core.specs.Relation.{states}
use Rattle.ap_core.proofs.Alternatives.{child_more}
use Rattle.ap_core.proofs.own.stack_of_children.Goals as goal

pub loop-child-preserved : goal.loop-child-preserved
loop-child-preserved c =
    λ k. child_more c.loop-child.left c.pop_back.new.self c.in-Some.child c.loop-child.stack.items c.push.new.self.items k (states c.in_ok-left.left k) c.in-Some.ensures c.in_ok-push.ensures.items (c.loop-child.invariant k)
