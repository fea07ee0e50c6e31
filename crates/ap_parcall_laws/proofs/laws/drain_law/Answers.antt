use Rattle.ap_parcall_laws.proofs.Drained.{drainings}
use Rattle.ap_parcall_laws.proofs.laws.drain_law.Goals as goal

pub returns : goal.returns
returns g c = drainings g.row.S.Denot g.row.T.Denot
