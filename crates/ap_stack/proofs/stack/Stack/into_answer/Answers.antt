use Rattle.ap_stack.proofs.Endings.{answer-fits, newest-paid}
use Rattle.ap_stack.proofs.stack.Stack.into_answer.Goals as goal

pub returns-clause-outcome : goal.returns-clause-outcome
returns-clause-outcome c =
    let s = c.args.self in
    let step = c.requires.step in
    record {
      fits = answer-fits c.outcome_law.ensures c.args.post.now s c.spent-spent.result c.has_more-has_more.result step.0 (c.requires.good.none_out step.1) step.2 c.spent-spent.ensures
          c.has_more-has_more.ensures.none (λ e. c.has_more-has_more.ensures.more e s.sound.now c.requires.good.ready step.2.at);
      ready = (c.requires.good.ready, step.2.closed);
      paid = λ r g n rest search h. newest-paid s rest c.spent-spent.result step.0 c.spent-spent.ensures h;
    }
