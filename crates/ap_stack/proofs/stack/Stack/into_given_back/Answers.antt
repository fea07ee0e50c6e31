use Rattle.ap_stack.proofs.Endings.{none-paid}
use Rattle.ap_stack.proofs.stack.Stack.into_given_back.Goals as goal

pub returns-clause-outcome : goal.returns-clause-outcome
returns-clause-outcome c = λ p. record { fits = λ r g n rest search. tt; ready = tt; paid = λ r g n rest search h. none-paid c.release-share.result }
