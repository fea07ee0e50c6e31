use Rattle.ap_parcall_laws.proofs.Redone.{redos}
use Rattle.ap_parcall_laws.proofs.laws.redo_law.Goals as goal

pub returns : goal.returns
returns g c = redos g.row.S.Denot g.row.T.Denot
