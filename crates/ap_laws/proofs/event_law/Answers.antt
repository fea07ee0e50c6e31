use Rattle.ap_laws.proofs.GroupedEvents.{events}
use Rattle.ap_laws.proofs.event_law.Goals as goal

pub returns : goal.returns
returns c = events
