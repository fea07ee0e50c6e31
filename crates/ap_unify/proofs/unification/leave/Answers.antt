use Rattle.std.proofs.Common.{◌+◌, ◌-◌, arith}
use Rattle.ap_unify.proofs.Works.{weight_runs-push}
use Rattle.ap_unify.proofs.unification.leave.Goals as goal

pub returns-in_ok-push-clause-less : goal.returns-in_ok-push-clause-less
returns-in_ok-push-clause-less c = λ ts.
    rw (c.in_ok-push.ensures.items, c.behind.ensures) (omega (arith, weight_runs-push ts c.args.runs.now.items (record { left = c.args.run.left + 1; right = c.args.run.right + 1; count = c.args.run.count - 1 })))
