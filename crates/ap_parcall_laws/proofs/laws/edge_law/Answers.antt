use Rattle.ap_parcall_laws.proofs.Judged.{edges}
use Rattle.ap_parcall_laws.proofs.laws.edge_law.Goals as goal

pub returns : goal.returns
returns g c = edges g.row.S.Denot g.row.T.Denot
