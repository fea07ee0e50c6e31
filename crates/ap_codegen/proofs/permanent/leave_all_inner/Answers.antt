use Rattle.std.proofs.Common.{arith}
use Rattle.ap_codegen.proofs.Turns.{makes-end}
use Rattle.ap_codegen.proofs.permanent.leave_all_inner.Goals as goal

pub returns : goal.returns
returns c = c.loop-t.invariant.1 c.loop-t.left.items (makes-end c.as_slice-terms.result.now c.loop-t.t-index c.args.whole c.loop-t.left.items (omega arith))
