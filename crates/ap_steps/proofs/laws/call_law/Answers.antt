use Rattle.ap_steps.proofs.Entry.{calls_are}
use Rattle.ap_steps.proofs.laws.call_law.Goals as goal

pub returns : goal.returns
returns c = calls_are
