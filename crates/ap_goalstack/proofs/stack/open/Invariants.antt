use Rattle.std.proofs.Common.{◌≡◌, true, [], vec_len}
use Rattle.ap_goalstack.specs.Stack.{hand}
use Rattle.ap_goalstack.specs.Hands.{stack_hand}
use Rattle.ap_goalstack.proofs.stack.open.Given as goal

abbrev pub invariant-loop : goal.invariant-loop
invariant-loop g l = (stack_hand l.stack ≡ hand true [] []) × (l.stack.capacity ≡ l.capacity) × (vec_len l.others ≡ l.counter)
