use Rattle.ap_certify.proofs.Differ.{differ}
use Rattle.ap_certify.proofs.laws.differ_law.Goals as goal

pub returns : goal.returns
returns c = differ
