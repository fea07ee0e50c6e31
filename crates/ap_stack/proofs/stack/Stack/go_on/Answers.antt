use Rattle.ap_stack.proofs.Moves.{goes-then}
use Rattle.ap_stack.proofs.stack.Stack.go_on.Goals as goal

pub returns-in_err-begin-clause-goes : goal.returns-in_err-begin-clause-goes
returns-in_err-begin-clause-goes c =
    goes-then c.args.post.now c.offer_last.new.post c.begin.new.post c.args.self.now c.offer_last.new.self c.begin.new.self c.offer_last.ensures.goes c.begin.ensures.goes

pub returns-in-Some-clause-goes : goal.returns-in-Some-clause-goes
returns-in-Some-clause-goes c =
    goes-then c.args.post.now c.offer_last.new.post c.begin.new.post c.args.self.now c.offer_last.new.self c.begin.new.self c.offer_last.ensures.goes c.begin.ensures.goes

pub returns-then-is_clear-clause-goes : goal.returns-then-is_clear-clause-goes
returns-then-is_clear-clause-goes c =
    goes-then c.args.post.now c.bring_back.new.post c.settle.new.post c.args.self.now c.bring_back.new.self c.settle.new.self c.bring_back.ensures.goes c.settle.ensures.goes
