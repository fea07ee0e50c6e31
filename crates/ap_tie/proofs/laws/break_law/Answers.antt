use Rattle.ap_tie.proofs.Settled.{breaks_of}
use Rattle.ap_tie.proofs.laws.break_law.Goals as goal

pub returns : goal.returns
returns c = breaks_of
