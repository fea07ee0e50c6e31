use Rattle.ap_laws.proofs.Conjunctions.{answers_to_depth-dead}
use Rattle.ap_laws.proofs.dead_conjunct_law.Goals as goal

pub returns : goal.returns
returns c = answers_to_depth-dead
