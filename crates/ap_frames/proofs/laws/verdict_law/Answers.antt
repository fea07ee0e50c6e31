use Rattle.ap_frames.proofs.Failing.{verdicts}
use Rattle.ap_frames.proofs.laws.verdict_law.Goals as goal

pub returns : goal.returns
returns g c = verdicts g.row.S.Denot g.row.T.Denot
