use Rattle.std.proofs.Common.{◌≤◌, sym, subst}
use Rattle.ap_ledger.specs.Counts.{capped}
use Rattle.ap_tracked.specs.Forks.{alone}
use Rattle.ap_stack.specs.Stacks.{IsStep}
use Rattle.ap_stack.specs.declared.stack.Step.TheVariants.{Ended}
use Rattle.ap_stack.proofs.Endings.{failure-fits, spent-fits, first-paid, spent-paid}
use Rattle.ap_stack.proofs.stack.Stack.into_ended.Goals as goal

pub returns-in-Failed-clause-outcome : goal.returns-in-Failed-clause-outcome
returns-in-Failed-clause-outcome c =
    let p = c.args.post.now in
    let s = c.args.self in
    let step = subst (λ e. IsStep p s (Ended e)) c.in-Failed.is c.requires.step in
    record { fits = failure-fits c.outcome_law.ensures p s c.spent-spent.result step.0 step.1 step.2 (c.spent-spent.ensures p); ready = tt; paid = λ r g n rest search h. subst (λ m. capped c.spent-spent.result ≤ m) (sym c.release-share.ensures) (first-paid p s rest c.spent-spent.result (c.spent-spent.ensures p) h) }

pub returns-in-Spent-clause-outcome : goal.returns-in-Spent-clause-outcome
returns-in-Spent-clause-outcome c =
    let p = c.args.post.now in
    let s = c.args.self in
    let step = subst (λ e. IsStep p s (Ended e)) c.in-Spent.is c.requires.step in
    record {
      fits = spent-fits c.outcome_law.ensures p s step.0 step.1 step.2;
      ready = tt;
      paid = λ r g n rest search h. subst (λ m. capped rest ≤ m) (sym c.release-share.ensures) (spent-paid p s rest r (alone g n) search.task step.0 step.2 search.opened h);
    }
