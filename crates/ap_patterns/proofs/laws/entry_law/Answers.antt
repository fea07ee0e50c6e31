use Rattle.ap_patterns.proofs.Marks.{marked-covers}
use Rattle.ap_patterns.proofs.laws.entry_law.Goals as goal

pub returns : goal.returns
returns c = marked-covers
