use Rattle.std.proofs.Common.{◌≤◌, sym, subst}
use Rattle.ap_ledger.specs.Counts.{capped}
use Rattle.ap_stack.proofs.Endings.{stop-fits, first-paid}
use Rattle.ap_stack.proofs.stack.Stack.into_stopped.Goals as goal

pub returns-clause-outcome : goal.returns-clause-outcome
returns-clause-outcome c = λ p.
    let s = c.args.self in
    let spent = c.spent-spent.result in
    record {
      fits = stop-fits c.outcome_law.ensures p s spent (c.spent-spent.ensures p);
      ready = tt;
      paid = λ r g n rest search h. subst (λ m. capped spent ≤ m) (sym c.release-share.ensures) (first-paid p s rest spent (c.spent-spent.ensures p) h);
    }
