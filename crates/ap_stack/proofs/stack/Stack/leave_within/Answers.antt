use Rattle.std.proofs.Common.{◌+◌, arith}
use Rattle.ap_stack.proofs.Moves.{goes-same, goes-then}
use Rattle.ap_stack.proofs.Outer.{below-goes}
use Rattle.ap_stack.proofs.stack.Stack.leave_within.Goals as goal

pub loop-section-init : goal.loop-section-init
loop-section-init c = goes-same c.sharing_law.ensures c.args.post.now c.args.self.now c.requires.good

pub loop-section-preserved : goal.loop-section-preserved
loop-section-preserved c =
    let p = c.args.post.now in
    goes-then p p p c.args.self.now c.loop-section.self c.leave_newest.new.self c.loop-section.invariant c.leave_newest.ensures.goes

pub returns-clause-goes : goal.returns-clause-goes
returns-clause-goes c =
    let p = c.args.post.now in
    let q = c.leave.new.self in
    let t = c.loop-section.self in
    let first = c.loop-section.invariant in
    let left = c.leave.ensures in
    goes-then p p q c.args.self.now t t first (below-goes c.sharing_law.ensures p t q (t.frame + 1) first.good (omega arith) left.posted left.jobs left.next)

pub returns-clause-none : goal.returns-clause-none
returns-clause-none c = λ f more less. c.leave.ensures.none f (omega (arith, more)) less
