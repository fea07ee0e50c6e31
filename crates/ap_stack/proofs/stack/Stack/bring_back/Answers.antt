use Rattle.ap_stack.proofs.Moves.{goes-then}
use Rattle.ap_stack.proofs.stack.Stack.bring_back.Goals as goal

pub returns-clause-goes : goal.returns-clause-goes
returns-clause-goes c =
    goes-then c.args.post.now c.take_back.new.post c.collect.new.post c.args.self.now c.take_back.new.self c.collect.new.self c.take_back.ensures.goes c.collect.ensures.goes
