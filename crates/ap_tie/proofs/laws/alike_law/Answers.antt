use Rattle.ap_tie.proofs.Answered.{alike}
use Rattle.ap_tie.proofs.laws.alike_law.Goals as goal

pub returns : goal.returns
returns c = alike
