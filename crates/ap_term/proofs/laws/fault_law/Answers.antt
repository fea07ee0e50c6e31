use Rattle.ap_term.proofs.Evaluation.{only_arithmetic}
use Rattle.ap_term.proofs.laws.fault_law.Goals as goal

pub returns : goal.returns
returns c = only_arithmetic
