use Rattle.std.proofs.Common.{◌<◌, length, subst}
use Rattle.ap_alike.proofs.Bare.{arguments-step}
use Rattle.ap_alike.proofs.likeness.are_alike_arguments.Goals as goal

pub loop-i-init : goal.loop-i-init
loop-i-init c = λ h. h

pub loop-i-preserved : goal.loop-i-preserved
loop-i-preserved c =
    let l = c.args.left.now in
    let r = c.args.right.now in
    let i = c.loop-i.i in
    let here : i < length r = subst (λ n. i < n) c.if-left-right.false c.loop-i-test.true in
    λ h. c.loop-i.invariant
    (arguments-step l r i c.index-left-i.result c.index-right-i.result c.loop-i-test.true here c.index-left-i.is c.index-right-i.is (c.in_ok-is_alike_argument.ensures c.if-not-branch.false) h)
