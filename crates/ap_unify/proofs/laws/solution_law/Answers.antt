use Rattle.ap_unify.proofs.Same.{solutions}
use Rattle.ap_unify.proofs.laws.solution_law.Goals as goal

pub returns : goal.returns
returns c = solutions
