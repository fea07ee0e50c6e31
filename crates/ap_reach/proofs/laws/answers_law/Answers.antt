use Rattle.ap_reach.proofs.Same.{answers}
use Rattle.ap_reach.proofs.laws.answers_law.Goals as goal

pub returns : goal.returns
returns c = answers
