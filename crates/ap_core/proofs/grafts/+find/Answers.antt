use Rattle.std.proofs.Common.{sym, ◌∙◌, arith}
use Rattle.ap_core.proofs.Fitting.{found_all-ended}
use Rattle.ap_core.proofs.grafts.+find.Goals as goal

pub find_all-returns : goal.find_all-returns
find_all-returns t c = sym (found_all-ended c.args.x c.args.ps.now c.args.ts.now c.loop-i.i c.min-i-end.result (omega arith) (omega arith)) ∙ c.loop-i.invariant
