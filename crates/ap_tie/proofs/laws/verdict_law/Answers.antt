use Rattle.ap_tie.proofs.Judged.{judging}
use Rattle.ap_tie.proofs.laws.verdict_law.Goals as goal

pub returns : goal.returns
returns c = judging
