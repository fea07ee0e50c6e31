use Rattle.ap_tracked.proofs.Untracked.{children-same}
use Rattle.ap_tracked.proofs.tracked_law.Goals as goal

pub returns : goal.returns
returns c = children-same
