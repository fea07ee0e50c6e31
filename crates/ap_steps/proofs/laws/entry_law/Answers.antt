use Rattle.ap_steps.proofs.Entry.{entry}
use Rattle.ap_steps.proofs.laws.entry_law.Goals as goal

pub returns : goal.returns
returns c = entry
