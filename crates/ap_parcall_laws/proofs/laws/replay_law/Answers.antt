use Rattle.ap_parcall_laws.proofs.Replayed.{replays}
use Rattle.ap_parcall_laws.proofs.laws.replay_law.Goals as goal

pub returns : goal.returns
returns g c = replays g.row.S.Denot g.row.T.Denot
