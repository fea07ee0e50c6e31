use Rattle.std.proofs.Common.{subst}
use Rattle.ap_post.specs.Jobs.{IsReadyEnding}
use Rattle.ap_stack.proofs.returning.put_ending.Goals as goal

pub returns-in-Answer-clause-ready : goal.returns-in-Answer-clause-ready
returns-in-Answer-clause-ready c = λ code r e. c.put_answer.ensures.ready code r (subst (IsReadyEnding code) c.in-Answer.is e).0

pub returns-in-Failed-clause-ready : goal.returns-in-Failed-clause-ready
returns-in-Failed-clause-ready c = λ code r e. c.put_failed.ensures.ready code r

pub returns-in-Spent-clause-ready : goal.returns-in-Spent-clause-ready
returns-in-Spent-clause-ready c = λ code r e. c.put_spent.ensures.ready code r

pub returns-in-Stopped-clause-ready : goal.returns-in-Stopped-clause-ready
returns-in-Stopped-clause-ready c = λ code r e. c.put_stopped.ensures.ready code r

pub returns-in-GivenBack-clause-ready : goal.returns-in-GivenBack-clause-ready
returns-in-GivenBack-clause-ready c = λ code r e. c.put_stopped-in-GivenBack.ensures.ready code r
