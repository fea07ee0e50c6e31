use Rattle.ap_stack.proofs.Moves.{no-less, goes-posted, goes-then}
use Rattle.ap_stack.proofs.stack.Stack.finish.Goals as goal

pub returns-clause-goes : goal.returns-clause-goes
returns-clause-goes c =
    let q = c.bring_back.new.post in
    let r = c.stop.new.self in
    let t = c.bring_back.new.self in
    let first = c.bring_back.ensures.goes in
    let stopped = c.stop.ensures in
    goes-then c.args.post.now q r c.args.self.now t t first (goes-posted c.sharing_law.ensures q r t stopped.posted stopped.jobs (no-less q.next r.next stopped.next) first.good)
