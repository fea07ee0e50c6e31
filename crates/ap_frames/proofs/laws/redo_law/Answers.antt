use Rattle.ap_frames.proofs.Failing.{redos}
use Rattle.ap_frames.proofs.laws.redo_law.Goals as goal

pub returns : goal.returns
returns g c = redos g.row.S.Denot g.row.T.Denot
