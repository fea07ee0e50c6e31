use Rattle.ap_standing.proofs.Calls.{answered}
use Rattle.ap_standing.proofs.answer_law.Goals as goal

pub returns : goal.returns
returns c = answered
