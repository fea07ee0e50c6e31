use Rattle.ap_tie.proofs.Rejoined.{meeting}
use Rattle.ap_tie.proofs.laws.meet_law.Goals as goal

pub returns : goal.returns
returns c = meeting
