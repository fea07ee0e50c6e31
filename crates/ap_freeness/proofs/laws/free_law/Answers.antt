use Rattle.ap_freeness.proofs.Frees.{unite_first-covers, unite_second-covers, project-covers, remove-covers}
use Rattle.ap_freeness.proofs.laws.free_law.Goals as goal

pub returns : goal.returns
returns c = record { unite_first = unite_first-covers; unite_second = unite_second-covers; project = project-covers; remove = remove-covers }
