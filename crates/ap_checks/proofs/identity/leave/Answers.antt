use Rattle.std.proofs.Common.{◌+◌, ◌-◌, arith}
use Rattle.ap_checks.proofs.Pairs.{weight_pairs-push}
use Rattle.ap_checks.proofs.identity.leave.Goals as goal

pub returns-in_ok-push-clause-less : goal.returns-in_ok-push-clause-less
returns-in_ok-push-clause-less c = λ ts.
    rw (c.in_ok-push.ensures.items, c.behind.ensures) (omega (arith, weight_pairs-push ts c.args.pairs.now.items (record { left = c.args.run.left + 1; right = c.args.run.right + 1; count = c.args.run.count - 1 })))
