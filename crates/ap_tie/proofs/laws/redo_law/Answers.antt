use Rattle.ap_tie.proofs.Redone.{redo_section}
use Rattle.ap_tie.proofs.laws.redo_law.Goals as goal

pub returns : goal.returns
returns c = redo_section
