use Rattle.ap_stack.proofs.Moves.{goes-then}
use Rattle.ap_stack.proofs.stack.Stack.step.Goals as goal

pub returns-in-Some-clause-goes : goal.returns-in-Some-clause-goes
returns-in-Some-clause-goes c =
    goes-then c.args.post.now c.offer_wanted.new.post c.look_after.new.post c.args.self.now c.offer_wanted.new.self c.look_after.new.self c.offer_wanted.ensures.goes c.look_after.ensures.goes

pub returns-then-self-clause-goes : goal.returns-then-self-clause-goes
returns-then-self-clause-goes c =
    goes-then c.args.post.now c.look_after.new.post c.tend.new.post c.args.self.now c.look_after.new.self c.tend.new.self
    (goes-then c.args.post.now c.offer_wanted.new.post c.look_after.new.post c.args.self.now c.offer_wanted.new.self c.look_after.new.self c.offer_wanted.ensures.goes c.look_after.ensures.goes) c.tend.ensures.goes

pub returns-else-self-clause-goes : goal.returns-else-self-clause-goes
returns-else-self-clause-goes c =
    goes-then c.args.post.now c.look_after.new.post c.search_on.new.post c.args.self.now c.look_after.new.self c.search_on.new.self
    (goes-then c.args.post.now c.offer_wanted.new.post c.look_after.new.post c.args.self.now c.offer_wanted.new.self c.look_after.new.self c.offer_wanted.ensures.goes c.look_after.ensures.goes) c.search_on.ensures.goes
