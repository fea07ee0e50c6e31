use Rattle.ap_codecheck.proofs.Stands.{ways}
use Rattle.ap_codecheck.proofs.laws.way_law.Goals as goal

pub returns : goal.returns
returns c = ways
