use Rattle.ap_tie.proofs.Groups.{forks}
use Rattle.ap_tie.proofs.laws.fork_law.Goals as goal

pub returns : goal.returns
returns c = forks
