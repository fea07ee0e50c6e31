use Rattle.ap_stack.proofs.Outer.{below-goes, paid-goes}
use Rattle.ap_stack.proofs.stack.Stack.sweep.Goals as goal

pub returns-in-Some : goal.returns-in-Some
returns-in-Some c =
    let p = c.args.post.now in
    let s = c.args.self.now in
    let q = c.sweep.new.self in
    let left = c.sweep.ensures in
    record { goes = paid-goes p s q s c.in-Some.share _ (below-goes c.sharing_law.ensures p s q p.next c.requires.good c.requires.good.below left.posted left.jobs left.next) c.merge.ensures }

pub returns-in_default : goal.returns-in_default
returns-in_default c =
    let p = c.args.post.now in
    let left = c.sweep.ensures in
    record { goes = below-goes c.sharing_law.ensures p c.args.self.now c.sweep.new.self p.next c.requires.good c.requires.good.below left.posted left.jobs left.next }
