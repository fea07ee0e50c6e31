use Rattle.ap_reader.proofs.Read.{one_term}
use Rattle.ap_reader.proofs.law.one_term.Goals as goal

pub returns : goal.returns
returns c = one_term
