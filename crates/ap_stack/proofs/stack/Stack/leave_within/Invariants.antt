use Rattle.ap_stack.specs.Stacks.{Goes}
use Rattle.ap_stack.proofs.stack.Stack.leave_within.Given as goal

abbrev pub invariant-loop-section : goal.invariant-loop-section
invariant-loop-section l = Goes l.post l.fn.self l.post l.self
