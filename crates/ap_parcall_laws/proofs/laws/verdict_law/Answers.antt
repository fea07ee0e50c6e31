use Rattle.ap_parcall_laws.proofs.Judged.{judgements}
use Rattle.ap_parcall_laws.proofs.laws.verdict_law.Goals as goal

pub returns : goal.returns
returns g c = judgements g.row.S.Denot g.row.T.Denot
