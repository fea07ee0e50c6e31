use Rattle.ap_graft.proofs.Variables.{variables}
use Rattle.ap_graft.proofs.variables_law.Goals as goal

pub returns : goal.returns
returns c = variables
