use Rattle.std.proofs.Common.{subst, Ok, true, false}
use Rattle.ap_reader.specs.Step.{Takes}
use Rattle.ap_reader.proofs.Stack.{turned, stopped, taken_behind}
use Rattle.ap_reader.proofs.pass.Pass.reduce.Goals as goal

pub loop-preserved : goal.loop-preserved
loop-preserved c = λ gone t s h.
    let at = c.loop.invariant gone t s h in
    turned c.args.most t at.0 s at.1 _ _ _ _ at.2 at.3 (taken_behind gone c.args.most c.loop.self.stack.items c.take_top.new.self.stack.items c.loop.self.out.items c.take_top.new.self.out.items true (subst (λ b. Takes c.args.most c.loop.self.stack.items c.loop.self.out.items (Ok b) c.take_top.new.self.stack.items c.take_top.new.self.out.items) c.if-branch.true c.in_ok-take_top.ensures.taken))

pub returns-clause-done : goal.returns-clause-done
returns-clause-done c = λ gone t s h.
    let at = c.loop.invariant gone t s h in
    stopped c.args.most t at.0 s at.1 _ _ _ _ at.2 at.3 (taken_behind gone c.args.most c.loop.self.stack.items c.take_top.new.self.stack.items c.loop.self.out.items c.take_top.new.self.out.items false (subst (λ b. Takes c.args.most c.loop.self.stack.items c.loop.self.out.items (Ok b) c.take_top.new.self.stack.items c.take_top.new.self.out.items) c.if-branch.false c.in_ok-take_top.ensures.taken))
