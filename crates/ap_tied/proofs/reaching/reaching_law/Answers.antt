use Rattle.ap_tied.proofs.Moves.{reaching}
use Rattle.ap_tied.proofs.reaching.reaching_law.Goals as goal

pub returns : goal.returns
returns c = reaching
