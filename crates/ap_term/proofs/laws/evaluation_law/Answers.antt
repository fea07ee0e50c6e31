use Rattle.ap_term.proofs.Evaluation.{evaluation}
use Rattle.ap_term.proofs.laws.evaluation_law.Goals as goal

pub returns : goal.returns
returns c = evaluation
