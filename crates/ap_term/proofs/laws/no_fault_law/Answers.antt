use Rattle.ap_term.proofs.NoFaults.{no_faults}
use Rattle.ap_term.proofs.laws.no_fault_law.Goals as goal

pub returns : goal.returns
returns c = no_faults
