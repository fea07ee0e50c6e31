use Rattle.ap_tied.proofs.Moves.{beginning}
use Rattle.ap_tied.proofs.reaching.beginning_law.Goals as goal

pub returns : goal.returns
returns c = beginning
