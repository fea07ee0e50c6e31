use Rattle.std.proofs.Common.{arith}
use Rattle.ap_marks.proofs.Kept.{none_is, first_is}
use Rattle.ap_marks.proofs.marks.number_among.Goals as goal

pub returns-then-order-number-clause-number : goal.returns-then-order-number-clause-number
returns-then-order-number-clause-number c =
    first_is c.args.x c.args.order.now c.loop-number.number c.loop-number-test.true c.loop-number.invariant c.if-order-number.true

pub returns-clause-absent : goal.returns-clause-absent
returns-clause-absent c = none_is c.args.x c.args.order.now (λ j l. c.loop-number.invariant j (omega arith))
