use Rattle.ap_core.proofs.Reached.{reached_by_events}
use Rattle.ap_core.proofs.laws.reached_law.Goals as goal

pub returns : goal.returns
returns c = reached_by_events
