use Rattle.ap_tie.proofs.Slotted.{put}
use Rattle.ap_tie.proofs.laws.slot_law.Goals as goal

pub returns : goal.returns
returns c = put
