use Rattle.ap_frames.proofs.Failing.{edges}
use Rattle.ap_frames.proofs.laws.edge_law.Goals as goal

pub returns : goal.returns
returns g c = edges g.row.S.Denot g.row.T.Denot
