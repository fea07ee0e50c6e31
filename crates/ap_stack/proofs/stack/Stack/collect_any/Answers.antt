use Rattle.ap_stack.proofs.Moves.{goes-then}
use Rattle.ap_stack.proofs.Returns.{posted-goes}
use Rattle.ap_stack.proofs.stack.Stack.collect_any.Goals as goal

pub returns-in_err-frame-clause-goes : goal.returns-in_err-frame-clause-goes
returns-in_err-frame-clause-goes c =
    let looked = c.finished_below.ensures in
    posted-goes c.sharing_law.ensures c.args.post.now c.args.self.now c.finished_below.new.self c.requires.good looked.posted looked.jobs looked.next

pub returns-in_err-k-clause-goes : goal.returns-in_err-k-clause-goes
returns-in_err-k-clause-goes c =
    let looked = c.finished_below.ensures in
    posted-goes c.sharing_law.ensures c.args.post.now c.args.self.now c.finished_below.new.self c.requires.good looked.posted looked.jobs looked.next

pub collect_outer-requires-clause-good : goal.collect_outer-requires-clause-good
collect_outer-requires-clause-good c =
    let looked = c.finished_below.ensures in
    (posted-goes c.sharing_law.ensures c.args.post.now c.args.self.now c.finished_below.new.self c.requires.good looked.posted looked.jobs looked.next).good

pub returns-then-collect_outer-clause-goes : goal.returns-then-collect_outer-clause-goes
returns-then-collect_outer-clause-goes c =
    let looked = c.finished_below.ensures in
    let first = posted-goes c.sharing_law.ensures c.args.post.now c.args.self.now c.finished_below.new.self c.requires.good looked.posted looked.jobs looked.next in
    goes-then c.args.post.now c.finished_below.new.self c.collect_outer.new.post c.args.self.now c.args.self.now c.collect_outer.new.self first c.collect_outer.ensures.goes

pub returns-clause-goes : goal.returns-clause-goes
returns-clause-goes c =
    let looked = c.finished_below.ensures in
    let first = posted-goes c.sharing_law.ensures c.args.post.now c.args.self.now c.finished_below.new.self c.requires.good looked.posted looked.jobs looked.next in
    goes-then c.args.post.now c.finished_below.new.self c.collect_outer.new.post c.args.self.now c.args.self.now c.collect_outer.new.self first c.collect_outer.ensures.goes
