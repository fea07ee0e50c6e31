use Rattle.ap_codecheck.proofs.Stands.{stands}
use Rattle.ap_codecheck.proofs.laws.place_law.Goals as goal

pub returns : goal.returns
returns c = stands
